-- One more digit of a number.
use Rattle.std.proofs.Common.{◌≡◌, ℕ, ◌+◌, ◌-◌, ◌*◌, ◌^◌, ◌<◌, ◌≤◌, List, length, take, get_or, Bool, true, false, add-one, arith, ◌∙◌, refl, nat_lt, nat_le, ◌&&◌}
use Rattle.std.specs.Char.{is_ascii_digit, digit_value}
use Rattle.std.specs.List.{list_all}
use Rattle.std.proofs.Math.Nat.{pow-succ', pow-le-pow_right}
use Rattle.std.proofs.lemmas.Bool.{leb-true}
use Rattle.std.proofs.lemmas.List.Sums.{AllPass-from_list_all}
use Rattle.std.proofs.lemmas.Bool.Decides.{nat_tests}
use Rattle.std.proofs.lemmas.Int.Digits.{digits_value_more}
use Rattle.sf_grammar.specs.Words.{number_value, are_digits}

-- a test of two parts that passes
pub &&-true : (a b : Bool) → (a && b) ≡ true → (a ≡ true) × (b ≡ true)
&&-true true b e = (refl, e)
&&-true false b e = cc

pub is_ascii_digit-bounds : (c : ℕ) → is_ascii_digit c ≡ true → (48 ≤ c) × (c ≤ 57)
is_ascii_digit-bounds c e = (grind (arith, nat_tests), grind (arith, nat_tests))

pub digit_value-digit : (c : ℕ) → is_ascii_digit c ≡ true → digit_value c ≡ c - 48
digit_value-digit c e = grind (arith, nat_tests)

-- ten to a power below eighteen leaves room for one more digit in 64 bits
pub ten_pow-le : (i : ℕ) → i < 18 → 10 ^ i ≤ 10 ^ 17
ten_pow-le i h = pow-le-pow_right {n = 10} (omega arith) {i = i} {j = 17} (omega arith)

pub ten_pow-more : (i : ℕ) → 10 ^ (i + 1) ≡ 10 * 10 ^ i
ten_pow-more i = rw add-one (pow-succ' 10 i)

-- each byte of a number is a digit, and there are few enough
pub are_digits-at : (most : ℕ) (word : List ℕ) → are_digits most word ≡ true
    → length word ≤ most × ((i : ℕ) → i < length word → is_ascii_digit (get_or word i 0) ≡ true)
are_digits-at most word e =
    let filled = &&-true (nat_lt 0 (length word)) (nat_le (length word) most && list_all is_ascii_digit word) e in
    let parts = &&-true (nat_le (length word) most) (list_all is_ascii_digit word) filled.1 in
    (leb-true _ _ parts.0, λ i h. AllPass-from_list_all is_ascii_digit word parts.1 i 0 h)

pub number_value-more : (word : List ℕ) (i : ℕ) → i < length word → is_ascii_digit (get_or word i 0) ≡ true
    → number_value (take (i + 1) word) ≡ 10 * number_value (take i word) + (get_or word i 0 - 48)
number_value-more word i h digit =
    let more = digits_value_more 10 word i h in
    let value = digit_value-digit (get_or word i 0) digit in
    more ∙ omega (arith, value)
