-- Some lines, and so a script, have exactly one output, and what was written before the end is a beginning of it.
use Rattle.std.proofs.Common.{◌≡◌, ℕ, List, [], ◌∷◌, ◌++◌, refl, sym, ap, subst, ◌∙◌, append_assoc}
use Rattle.sf_session.specs.Laws.{HasOneReply, HasOneOutput, FrontBeginsOutput}
use Rattle.sf_session.specs.Replies.{Step}
use Rattle.sf_session.specs.Scripts.{Answers, IsReply}
use Rattle.sf_session.specs.State.{State, start}
use Rattle.sf_grammar.specs.Words.{script_lines}
use Rattle.sf_session.proofs.OneReply.{IsOne, step_one, step_sound}
use Rattle.sf_session.specs.Sound.{IsSound}

pub IsOne-Answers : (old : State) → IsSound old.env → (lines : List (List ℕ)) → IsOne (Answers old lines)
IsOne-Answers old sound [] = record { reply = []; state = old; met = (refl, refl); only = λ other new h. h }
IsOne-Answers old sound (line ∷ lines) =
    let first = step_one old line sound in
    let others = IsOne-Answers first.state (step_sound old line first.reply first.state sound first.met) lines in
    record {
      reply = first.reply ++ others.reply;
      state = others.state;
      met = (first.reply, others.reply, first.state, first.met, others.met, refl);
      only = λ out new h.
          let same = first.only h.0 h.2 h.3 in
          let rest = others.only h.1 new (subst (λ (mid : State). Answers mid lines h.1 new) same.1 h.4) in
          (h.5 ∙ ap (λ r. r ++ h.1) same.0 ∙ ap (λ r. first.reply ++ r) rest.0, rest.1);
    }

-- the first state is sound, and so is that after some lines
pub start_sound : IsSound start.env
start_sound = record { few = tt; limit = tt; names = refl }

pub answers_sound : (old : State) (lines : List (List ℕ)) (out : List ℕ) (new : State) → IsSound old.env
    → Answers old lines out new → IsSound new.env
answers_sound old [] out new sound h = subst (λ (s : State). IsSound s.env) (sym h.1) sound
answers_sound old (line ∷ lines) out new sound h =
    answers_sound h.2 lines h.1 new (step_sound old line h.0 h.2 sound h.3) h.4

pub one_reply : HasOneReply
one_reply earlier line =
    let before = IsOne-Answers start start_sound earlier in
    let step = step_one before.state line (answers_sound start earlier before.reply before.state start_sound before.met) in
    let met : IsReply earlier line step.reply = (before.reply, before.state, step.state, before.met, step.met) in
    let only : (reply : List ℕ) → IsReply earlier line reply → reply ≡ step.reply = λ reply h.
    (step.only reply h.2 (subst (λ (s : State). Step s line reply h.2) (before.only h.0 h.1 h.3).1 h.4)).0 in
    ((step.reply, met), λ reply other h k. only reply h ∙ sym (only other k))

pub one_output : HasOneOutput
one_output script =
    let all = IsOne-Answers start start_sound (script_lines script) in
    ((all.reply, (all.state, all.met)), λ out other h k. (all.only out h.0 h.1).0 ∙ sym (all.only other k.0 k.1).0)

-- answers to some lines and then to others are answers to all
pub Answers-append : (old mid new : State) (lines others : List (List ℕ)) (out more : List ℕ)
    → Answers old lines out mid → Answers mid others more new → Answers old (lines ++ others) (out ++ more) new
Answers-append old mid new [] others out more h k =
    subst (λ (s : State). Answers s others (out ++ more) new) h.1
    (subst (λ o. Answers mid others (o ++ more) new) (sym h.0) k)
Answers-append old mid new (line ∷ lines) others out more h k =
    (h.0, h.1 ++ more, h.2, h.3, Answers-append h.2 mid new lines others h.1 more h.4 k, ap (λ o. o ++ more) h.5 ∙ append_assoc h.0 h.1 more)

pub front_begins_output : FrontBeginsOutput
front_begins_output script front out h k =
    let cut = h.1 in
    let rest = IsOne-Answers cut.2 (answers_sound start cut.0 (front ++ h.0) cut.2 start_sound cut.4) cut.1 in
    let whole = Answers-append start cut.2 rest.state cut.0 cut.1 (front ++ h.0) rest.reply cut.4 rest.met in
    let all = IsOne-Answers start start_sound (script_lines script) in
    let ours =
    all.only ((front ++ h.0) ++ rest.reply) rest.state
    (subst (λ ls. Answers start ls ((front ++ h.0) ++ rest.reply) rest.state) (sym cut.3) whole) in
    (h.0 ++ rest.reply, (all.only out k.0 k.1).0 ∙ sym ours.0 ∙ append_assoc front h.0 rest.reply)
