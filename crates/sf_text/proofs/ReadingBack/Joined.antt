-- Texts joined by a byte that stands in none of them are cut into these texts again.
use Rattle.std.proofs.Common.{◌≡◌, ◌≢◌, ℕ, ◌+◌, List, [], ◌∷◌, ◌++◌, length, drop, ◌==◌, Bool, true, false, not, cond, Some, None, nat_lt, refl, ap, ◌∙◌, map, position, arith}
use Rattle.std.specs.List.{AllByRecursion, join_with_byte, onto_first, position_or_len}
use Rattle.std.specs.Option.{option_map}
use Rattle.std.proofs.lemmas.Bool.Decides.{nat_tests}
use Rattle.std.proofs.lemmas.List.{length-append}
use Rattle.std.proofs.lemmas.List.Splits.{slice_split-cons_yes, slice_split-cons_no}
use Rattle.std.proofs.Math.Seq.{take-append_seam, drop-append-add}
use Rattle.sf_algebra.specs.Printing.{plus}
use Rattle.sf_algebra.proofs.Basics.Lists.{AllByRecursion-append, AllByRecursion-weaken}
use Rattle.sf_text.specs.MatrixText.{minus, is_sign, onto_first_text, signed_parts}
use Rattle.sf_grammar.specs.Words.{parts, before, behind}
use Rattle.sf_text.proofs.Cuts.{before-Some, before-None}
use Rattle.sf_text.proofs.Signs.{signed_parts-other}

-- a fact of each byte of each text, and of the byte that joins them
pub joined-each : (P : ℕ → Type 0) (c : ℕ) → P c → (xs : List (List ℕ)) → AllByRecursion (AllByRecursion P) xs
    → AllByRecursion P (join_with_byte c xs)
joined-each P c h [] each = tt
joined-each P c h (x ∷ []) each = each.0
joined-each P c h (x ∷ y ∷ xs) each =
    AllByRecursion-append P x (c ∷ join_with_byte c (y ∷ xs)) each.0 (h, joined-each P c h (y ∷ xs) each.1)

-- where the fact implies another
pub each-weaken : (P Q : ℕ → Type 0) → ((b : ℕ) → P b → Q b) → (texts : List (List ℕ))
    → AllByRecursion (AllByRecursion P) texts → AllByRecursion (AllByRecursion Q) texts
each-weaken P Q f texts h = AllByRecursion-weaken _ _ (AllByRecursion-weaken P Q f) texts h

-- a byte doesn't stand in a text
abbrev pub Lacks : ℕ → List ℕ → Type 0
Lacks c text = AllByRecursion (λ b. b ≢ c) text

other : (b c : ℕ) → b ≢ c → (b == c) ≡ false
other b c h = grind (arith, nat_tests)

same : (c : ℕ) → (c == c) ≡ true
same c = grind (arith, nat_tests)

module _ (c : ℕ) where
  pub parts-whole : (x : List ℕ) → Lacks c x → parts c x ≡ x ∷ []
  parts-whole [] h = refl
  parts-whole (b ∷ x) h =
      slice_split-cons_no (λ d. d == c) b x (other b c h.0) ∙ ap (onto_first b) (parts-whole x h.1)

  parts-first : (x text : List ℕ) → Lacks c x → parts c (x ++ c ∷ text) ≡ x ∷ parts c text
  parts-first [] text h = slice_split-cons_yes (λ d. d == c) c text (same c)
  parts-first (b ∷ x) text h =
      slice_split-cons_no (λ d. d == c) b (x ++ c ∷ text) (other b c h.0)
      ∙ ap (onto_first b) (parts-first x text h.1)

  pub parts-joined : (x : List ℕ) (xs : List (List ℕ)) → AllByRecursion (Lacks c) (x ∷ xs)
      → parts c (join_with_byte c (x ∷ xs)) ≡ x ∷ xs
  parts-joined x [] h = parts-whole x h.0
  parts-joined x (y ∷ ys) h =
      parts-first x (join_with_byte c (y ∷ ys)) h.0 ∙ ap (λ zs. x ∷ zs) (parts-joined y ys h.1)

  -- the first of these bytes
  position_or_len-first : (x text : List ℕ) → Lacks c x → position_or_len (λ b. b == c) (x ++ c ∷ text) ≡ length x
  position_or_len-first [] text h = ap (λ t. cond (not t) (1 + position_or_len (λ b. b == c) text) 0) (same c)
  position_or_len-first (b ∷ x) text h =
      ap (λ t. cond (not t) (1 + position_or_len (λ d. d == c) (x ++ c ∷ text)) 0) (other b c h.0)
      ∙ omega (arith, position_or_len-first x text h.1)

  position_or_len-whole : (x : List ℕ) → Lacks c x → position_or_len (λ b. b == c) x ≡ length x
  position_or_len-whole [] h = refl
  position_or_len-whole (b ∷ x) h =
      ap (λ t. cond (not t) (1 + position_or_len (λ d. d == c) x) 0) (other b c h.0)
      ∙ omega (arith, position_or_len-whole x h.1)

  position-first : (x text : List ℕ) → Lacks c x → position (λ b. b == c) (x ++ c ∷ text) ≡ Some (length x)
  position-first x text h =
      let at = position_or_len-first x text h in
      let within : nat_lt (length x) (length (x ++ c ∷ text)) ≡ true =
      grind (arith, nat_tests, length-append x (c ∷ text)) in
      rw (at, within)

  pub before-first : (x text : List ℕ) → Lacks c x → before c (x ++ c ∷ text) ≡ x
  before-first x text h =
      before-Some c (x ++ c ∷ text) (length x) (position-first x text h) ∙ take-append_seam x (c ∷ text)

  pub behind-first : (x text : List ℕ) → Lacks c x → behind c (x ++ c ∷ text) ≡ Some text
  behind-first x text h =
      ap (option_map (λ i. drop (i + 1) (x ++ c ∷ text))) (position-first x text h)
      ∙ ap Some (drop-append-add x (c ∷ text) 1)

  pub position-whole : (x : List ℕ) → Lacks c x → position (λ b. b == c) x ≡ None
  position-whole x h =
      let at = position_or_len-whole x h in
      let past : nat_lt (length x) (length x) ≡ false = grind (arith, nat_tests) in
      rw (at, past)

  pub before-whole : (x : List ℕ) → Lacks c x → before c x ≡ x
  before-whole x h = before-None c x (position-whole x h)

  pub behind-whole : (x : List ℕ) → Lacks c x → behind c x ≡ None
  behind-whole x h = ap (option_map (λ i. drop (i + 1) x)) (position-whole x h)

-- a text without a sign
abbrev pub HasNoSign : List ℕ → Type 0
HasNoSign text = AllByRecursion (λ b. (b ≢ plus) × (b ≢ minus)) text

no_sign : (b : ℕ) → (b ≢ plus) × (b ≢ minus) → is_sign b ≡ false
no_sign b h = grind (arith, nat_tests)

signed_parts-whole : (x : List ℕ) (negative : Bool) → HasNoSign x → signed_parts negative x ≡ (negative, x) ∷ []
signed_parts-whole [] negative h = refl
signed_parts-whole (b ∷ x) negative h =
    signed_parts-other b x negative (no_sign b h.0) ∙ ap (onto_first_text b) (signed_parts-whole x negative h.1)

signed_parts-front : (x text : List ℕ) (negative : Bool) → HasNoSign x
    → signed_parts negative (x ++ plus ∷ text) ≡ (negative, x) ∷ signed_parts false text
signed_parts-front [] text negative h = refl
signed_parts-front (b ∷ x) text negative h =
    signed_parts-other b (x ++ plus ∷ text) negative (no_sign b h.0)
    ∙ ap (onto_first_text b) (signed_parts-front x text negative h.1)

-- texts joined by a plus are cut into these texts, none of them with a minus
pub signed_parts-joined : (x : List ℕ) (xs : List (List ℕ)) → AllByRecursion HasNoSign (x ∷ xs)
    → signed_parts false (join_with_byte plus (x ∷ xs)) ≡ map (λ y. (false, y)) (x ∷ xs)
signed_parts-joined x [] h = signed_parts-whole x false h.0
signed_parts-joined x (y ∷ ys) h =
    signed_parts-front x (join_with_byte plus (y ∷ ys)) false h.0
    ∙ ap (λ zs. (false, x) ∷ zs) (signed_parts-joined y ys h.1)
