-- Printed degrees read back.
use Rattle.std.proofs.Common.{◌≡◌, ℕ, suc, ◌≤◌, List, [], ◌∷◌, map, true, false, refl, ap, ◌∙◌, ℤ, pos, negsuc, neg_ℤ, int_le, arith}
use Rattle.std.specs.Fmt.{decimal, signed_decimal}
use Rattle.std.specs.List.{AllByRecursion, join_with_byte}
use Rattle.std.proofs.lemmas.Bool.Decides.{nat_tests}
use Rattle.sf_algebra.specs.Printing.{comma}
use Rattle.sf_algebra.proofs.Basics.Lists.{AllByRecursion-weaken}
use Rattle.sf_text.specs.Placed.{is_written_degree}
use Rattle.sf_text.specs.ReadingBack.{IsReadDegree, DegreesReadBack}
use Rattle.sf_grammar.specs.Words.{parts, begins_with}
use Rattle.sf_text.proofs.Digits.{&&-true}
use Rattle.sf_text.proofs.ReadingBack.Joined.{Lacks, parts-joined}
use Rattle.sf_text.proofs.ReadingBack.Numbers.{IsDigitByte, decimal-each, are_digits-decimal, number_value-decimal}
use Rattle.sf_text.proofs.ReadingBack.Rows.{inner-between}

no_minus : (digits : List ℕ) → AllByRecursion IsDigitByte digits → begins_with 45 digits ≡ false
no_minus [] h = refl
no_minus (b ∷ bs) h = let first = h.0 in grind (arith, nat_tests)

IsReadDegree-pos : (n : ℕ) → n ≤ 999999 → IsReadDegree (pos n)
IsReadDegree-pos n h =
    let sign = no_minus (decimal n) (decimal-each n (omega arith)) in
    record {
      integer = rw sign (are_digits-decimal 6 n (omega arith) (omega arith) (omega arith));
      value = rw (sign, number_value-decimal n (omega arith));
    }

IsReadDegree-negsuc : (n : ℕ) → suc n ≤ 999999 → IsReadDegree (negsuc n)
IsReadDegree-negsuc n h = record {
  integer = are_digits-decimal 6 (suc n) (omega arith) (omega arith) (omega arith);
  value = ap (λ k. neg_ℤ (pos k)) (number_value-decimal (suc n) (omega arith));
}

digits-lack_comma : (n : ℕ) → n ≤ 999999 → Lacks comma (decimal n)
digits-lack_comma n h =
    AllByRecursion-weaken _ _ (λ b k is. omega (arith, k.0)) (decimal n) (decimal-each n (omega arith))

read-degree : (d : ℤ) → is_written_degree d ≡ true → IsReadDegree d × Lacks comma (signed_decimal d)
read-degree (pos n) e =
    let bounds = &&-true (int_le (negsuc 999998) (pos n)) (int_le (pos n) (pos 999999)) e in
    let small : n ≤ 999999 = (let above = bounds.1 in grind (arith, nat_tests)) in
    (IsReadDegree-pos n small, digits-lack_comma n small)
read-degree (negsuc n) e =
    let bounds = &&-true (int_le (negsuc 999998) (negsuc n)) (int_le (negsuc n) (pos 999999)) e in
    let small : suc n ≤ 999999 = (let below = bounds.0 in grind (arith, nat_tests)) in
    (IsReadDegree-negsuc n small, (λ is. omega arith, digits-lack_comma (suc n) small))

read-degrees : (degrees : List ℤ) → AllByRecursion (λ d. is_written_degree d ≡ true) degrees
    → AllByRecursion (Lacks comma) (map signed_decimal degrees) × AllByRecursion IsReadDegree degrees
read-degrees [] h = (tt, tt)
read-degrees (d ∷ ds) h =
    let here = read-degree d h.0 in
    let others = read-degrees ds h.1 in
    ((here.1, others.0), (here.0, others.1))

pub degrees_read_back : DegreesReadBack
degrees_read_back [] some h = absurd (omega arith)
degrees_read_back (d ∷ ds) some h =
    let read = read-degrees (d ∷ ds) h in
    let between = inner-between 40 41 (join_with_byte comma (map signed_decimal (d ∷ ds))) in
    (ap (parts comma) between ∙ parts-joined comma (signed_decimal d) (map signed_decimal ds) read.0, read.1)
