-- Where the first term of a sum ends.
use Rattle.std.proofs.Common.{◌≡◌, ℕ, ◌+◌, List, [], ◌∷◌, length, take, drop, get_or, drop-cons, one-add, add-one, ◌==◌, Bool, true, false, cond, not, ◌||◌, Option, Some, None, refl, ap, ◌∙◌, arith, position}
use Rattle.std.specs.List.{position_or_len}
use Rattle.std.proofs.Math.Seq.{take-length, drop-length}
use Rattle.std.proofs.Math.Nat.{le_antisymm}
use Rattle.std.proofs.lemmas.List.Sums.{prefix_len-le-length}
use Rattle.std.proofs.lemmas.Bool.Decides.{nat_tests}
use Rattle.sf_algebra.specs.Printing.{plus}
use Rattle.sf_text.specs.MatrixText.{minus, is_sign, onto_first_text, signed_parts, signed_left}
use Rattle.sf_text.proofs.Cuts.{position-Some, position-None}

-- a sign in front of a text, with what stands behind it
abbrev pub sign_and_rest : List ℕ → Option (Bool × List ℕ)
sign_and_rest [] = None
sign_and_rest (b ∷ bs) = Some (b == minus, bs)

-- at a sign the first text ends
pub signed_parts-sign : (b : ℕ) (bs : List ℕ) (negative : Bool) → is_sign b ≡ true
    → signed_parts negative (b ∷ bs) ≡ (negative, []) ∷ signed_parts (b == minus) bs
signed_parts-sign b bs negative e = by (b == plus) (b == minus) refl refl e
  where
    by : (p m : Bool) → (b == plus) ≡ p → (b == minus) ≡ m → (p || m) ≡ true
        → cond p ((negative, []) ∷ signed_parts false bs)
        (cond m ((negative, []) ∷ signed_parts true bs) (onto_first_text b (signed_parts negative bs)))
        ≡ (negative, []) ∷ signed_parts m bs
    by true true x y some = absurd (grind (arith, nat_tests))
    by true false x y some = refl
    by false true x y some = refl
    by false false x y some = cc

-- no other byte ends it
pub signed_parts-other : (b : ℕ) (bs : List ℕ) (negative : Bool) → is_sign b ≡ false
    → signed_parts negative (b ∷ bs) ≡ onto_first_text b (signed_parts negative bs)
signed_parts-other b bs negative e = by (b == plus) (b == minus) e
  where
    by : (p m : Bool) → (p || m) ≡ false
        → cond p ((negative, []) ∷ signed_parts false bs)
        (cond m ((negative, []) ∷ signed_parts true bs) (onto_first_text b (signed_parts negative bs)))
        ≡ onto_first_text b (signed_parts negative bs)
    by true m none = cc
    by false true none = cc
    by false false none = refl

-- the first text goes to the first sign
pub signed_parts-first : (text : List ℕ) (negative : Bool)
    → signed_parts negative text
    ≡ (negative, take (position_or_len is_sign text) text) ∷ signed_left
    (sign_and_rest (drop (position_or_len is_sign text) text))
signed_parts-first [] negative = refl
signed_parts-first (b ∷ bs) negative = by (is_sign b) refl (signed_parts-first bs negative)
  where
    by : (t : Bool) → is_sign b ≡ t
        → signed_parts negative bs
        ≡ (negative, take (position_or_len is_sign bs) bs) ∷ signed_left
        (sign_and_rest (drop (position_or_len is_sign bs) bs))
        → signed_parts negative (b ∷ bs)
        ≡ (negative, take (cond (not t) (1 + position_or_len is_sign bs) 0) (b ∷ bs))
        ∷ signed_left (sign_and_rest (drop (cond (not t) (1 + position_or_len is_sign bs) 0) (b ∷ bs)))
    by true e rest = signed_parts-sign b bs negative e
    by false e rest = rw one-add (signed_parts-other b bs negative e ∙ ap (onto_first_text b) rest)

pub signed_parts-None : (text : List ℕ) → position is_sign text ≡ None → (negative : Bool)
    → signed_parts negative text ≡ (negative, text) ∷ []
signed_parts-None text e negative =
    let whole : position_or_len is_sign text ≡ length text =
    le_antisymm (prefix_len-le-length (λ b. not (is_sign b)) text) (position-None is_sign text e) in
    signed_parts-first text negative
    ∙ ap (λ n. (negative, take n text) ∷ signed_left (sign_and_rest (drop n text))) whole
    ∙ (λ i. (negative, take-length text i) ∷ signed_left (sign_and_rest (drop-length text i)))

pub signed_parts-Some : (text : List ℕ) (i : ℕ) → position is_sign text ≡ Some i → (negative : Bool)
    → signed_parts negative text ≡ (negative, take i text) ∷ signed_parts (get_or text i 0 == minus) (drop (i + 1) text)
signed_parts-Some text i e negative =
    let at = position-Some is_sign text i e in
    signed_parts-first text negative
    ∙ ap (λ n. (negative, take n text) ∷ signed_left (sign_and_rest (drop n text))) at.0
    ∙ ap (λ rest. (negative, take i text) ∷ signed_left (sign_and_rest rest)) (drop-cons text i 0 at.1)
    ∙ rw add-one refl

pub ruleset sign_rules = (signed_parts-None, signed_parts-Some)
