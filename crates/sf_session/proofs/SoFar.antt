-- How far a run has come: the lines that were answered, and what was written.
use Rattle.std.proofs.Common.{◌≡◌, ℕ, List, [], ◌∷◌, ◌++◌, take, drop, Option, refl, sym, ap, subst, ◌∙◌, append_assoc, append-nil}
use Rattle.std.specs.Io.KnownBytes.{Appends}
use Rattle.std.proofs.KnownBytes.{Appends-nil, Appends-trans}
use Rattle.std.proofs.lemmas.List.{take-append-drop}
use Rattle.sf_session.specs.Replies.{Step}
use Rattle.sf_session.specs.Scripts.{Answers, IsOutput, IsFront, IsWholeFront}
use Rattle.sf_session.specs.State.{State, start}
use Rattle.sf_grammar.specs.Words.{script_lines}

-- the lines before the rest of a script were answered by what was written, and left this state
pub record SoFar (old new : Option (List ℕ)) (script rest : List ℕ) (state : State) : Type 0 where
  pub lines : List (List ℕ)
  pub out : List ℕ
  pub split : script_lines script ≡ lines ++ script_lines rest
  pub answered : Answers start lines out state
  pub written : Appends old new out

-- answers to some lines and to one line more
pub Answers-push : (old : State) (lines : List (List ℕ)) (out : List ℕ) (mid : State) (line reply : List ℕ)
    (new : State)
    → Answers old lines out mid → Step mid line reply new → Answers old (lines ++ line ∷ []) (out ++ reply) new
Answers-push old [] out mid line reply new h step =
    (reply, [], new, subst (λ (state : State). Step state line reply new) h.1 step, (refl, refl), ap (λ o. o ++ reply) h.0 ∙ sym (append-nil reply))
Answers-push old (first ∷ lines) out mid line reply new h step = (
  h.0,
  h.1 ++ reply,
  h.2,
  h.3,
  Answers-push h.2 lines h.1 mid line reply new h.4 step,
  ap (λ o. o ++ reply) h.5 ∙ append_assoc h.0 h.1 reply,
)

pub SoFar-none : (old : Option (List ℕ)) (script : List ℕ) → SoFar old old script script start
SoFar-none old script = record {
  lines = [];
  out = [];
  split = refl;
  answered = (refl, refl);
  written = Appends-nil old;
}

pub SoFar-more : (old mid new : Option (List ℕ)) (script rest line others reply : List ℕ) (state after : State)
    → SoFar old mid script rest state → script_lines rest ≡ line ∷ script_lines others → Step state line reply after
    → Appends mid new reply
    → SoFar old new script others after
SoFar-more old mid new script rest line others reply state after h cut step written = record {
  lines = h.lines ++ line ∷ [];
  out = h.out ++ reply;
  split = h.split ∙ ap (λ ls. h.lines ++ ls) cut ∙ sym (append_assoc h.lines (line ∷ []) (script_lines others));
  answered = Answers-push start h.lines h.out state line reply after h.answered step;
  written = Appends-trans old mid new h.out reply h.written written;
}

pub SoFar-all : (old new : Option (List ℕ)) (script rest : List ℕ) (state : State) → SoFar old new script rest state
    → script_lines rest ≡ []
    → (out : List ℕ) × Appends old new out × IsOutput script out
SoFar-all old new script rest state h cut =
    (h.out, h.written, (state, subst (λ ls. Answers start ls h.out state) (sym (h.split ∙ ap (λ ls. h.lines ++ ls) cut ∙ append-nil h.lines)) h.answered))

pub SoFar-whole : (old new : Option (List ℕ)) (script rest : List ℕ) (state : State) → SoFar old new script rest state
    → (out : List ℕ) × Appends old new out × IsWholeFront script out
SoFar-whole old new script rest state h = (h.out, h.written, (h.lines, script_lines rest, state, h.split, h.answered))

-- a beginning of the next reply was written
pub SoFar-cut : (old mid new : Option (List ℕ)) (script rest line others reply : List ℕ) (n : ℕ) (state after : State)
    → SoFar old mid script rest state → script_lines rest ≡ line ∷ script_lines others → Step state line reply after
    → Appends mid new (take n reply)
    → (out : List ℕ) × Appends old new out × IsFront script out
SoFar-cut old mid new script rest line others reply n state after h cut step written = (
  h.out ++ take n reply,
  Appends-trans old mid new h.out (take n reply) h.written written,
  (
    drop n reply,
    (
      h.lines ++ line ∷ [],
      script_lines others,
      after,
      h.split ∙ ap (λ ls. h.lines ++ ls) cut ∙ sym (append_assoc h.lines (line ∷ []) (script_lines others)),
      subst (λ o. Answers start (h.lines ++ line ∷ []) o after)
          (sym (append_assoc h.out (take n reply) (drop n reply) ∙ ap (λ o. h.out ++ o) (take-append-drop n reply)))
          (Answers-push start h.lines h.out state line reply after h.answered step),
    ),
  ),
)
