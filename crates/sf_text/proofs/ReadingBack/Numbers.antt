-- A number that is printed in decimal reads back, and a name is no number.
use Rattle.std.proofs.Common.{◌≡◌, ◌≢◌, ℕ, ◌^◌, ◌<◌, ◌≤◌, List, [], ◌∷◌, length, nat_lt, nat_le, ◌&&◌, Bool, true, false, refl, arith}
use Rattle.std.specs.Char.{is_ascii_digit, is_ascii_alphabetic}
use Rattle.std.specs.Fmt.{decimal}
use Rattle.std.specs.List.{AllByRecursion, list_all}
use Rattle.std.specs.Str.Parse.{AllDigits}
use Rattle.std.proofs.lemmas.Bool.Decides.{nat_tests}
use Rattle.std.proofs.lemmas.Fmt.{decimal_is_IsNumeral, length-decimal-le}
use Rattle.std.proofs.lemmas.Str.Parse.{digit_from_value}
use Rattle.sf_algebra.specs.Printing.{semicolon}
use Rattle.sf_text.specs.MatrixText.{caret, closing}
use Rattle.sf_grammar.specs.Words.{are_digits, number_value, is_name, is_name_byte}
use Rattle.sf_text.proofs.Digits.{&&-true, are_digits-at}

abbrev pub IsDigitByte : ℕ → Type 0
IsDigitByte b = (48 ≤ b) × (b ≤ 57)

digits-each : (ds : List ℕ) → AllDigits 10 ds → AllByRecursion IsDigitByte ds
digits-each [] h = tt
digits-each (c ∷ cs) h = let at = digit_from_value c h.0 in ((omega (arith, at), omega (arith, at)), digits-each cs h.1)

pub decimal-each : (n : ℕ) → n < 2 ^ 64 → AllByRecursion IsDigitByte (decimal n)
decimal-each n h = digits-each (decimal n) (decimal_is_IsNumeral n h).0.1

is_digit : (b : ℕ) → IsDigitByte b → is_ascii_digit b ≡ true
is_digit b h = grind (arith, nat_tests)

each_digit : (ds : List ℕ) → AllByRecursion IsDigitByte ds → list_all is_ascii_digit ds ≡ true
each_digit [] h = refl
each_digit (c ∷ cs) h = rw (is_digit c h.0) (each_digit cs h.1)

-- a number of at most so many digits
pub are_digits-decimal : (most n : ℕ) → 0 < most → n < 10 ^ most → n < 2 ^ 64 → are_digits most (decimal n) ≡ true
are_digits-decimal most n some fits small =
    let filled : nat_lt 0 (length (decimal n)) ≡ true =
    (let h = (decimal_is_IsNumeral n small).0.0 in grind (arith, nat_tests)) in
    let short : nat_le (length (decimal n)) most ≡ true =
    (let h = length-decimal-le most n some fits small in grind (arith, nat_tests)) in
    rw (filled, short) (each_digit (decimal n) (decimal-each n small))

pub number_value-decimal : (n : ℕ) → n < 2 ^ 64 → number_value (decimal n) ≡ n
number_value-decimal n h = (decimal_is_IsNumeral n h).1

-- a byte of a name is no separator
abbrev pub IsNameByte : ℕ → Type 0
IsNameByte b = (48 ≤ b) × (b ≢ semicolon) × (b ≢ closing) × (b ≢ caret)

name_byte : (b : ℕ) → is_name_byte b ≡ true → IsNameByte b
name_byte b e =
    (grind (arith, nat_tests), grind (arith, nat_tests), grind (arith, nat_tests), grind (arith, nat_tests))

letter : (b : ℕ) → is_ascii_alphabetic b ≡ true → IsNameByte b
letter b e =
    (grind (arith, nat_tests), grind (arith, nat_tests), grind (arith, nat_tests), grind (arith, nat_tests))

name_bytes : (bs : List ℕ) → list_all is_name_byte bs ≡ true → AllByRecursion IsNameByte bs
name_bytes [] e = tt
name_bytes (b ∷ bs) e =
    let both = &&-true (is_name_byte b) (list_all is_name_byte bs) e in
    (name_byte b both.0, name_bytes bs both.1)

pub is_name-each : (name : List ℕ) → is_name name ≡ true → AllByRecursion IsNameByte name
is_name-each [] e = cc
is_name-each (b ∷ bs) e =
    let first = &&-true (is_ascii_alphabetic b) (nat_le (length bs) 31 && list_all is_name_byte bs) e in
    let others = &&-true (nat_le (length bs) 31) (list_all is_name_byte bs) first.1 in
    (letter b first.0, name_bytes bs others.1)

is_false : (t : Bool) → (t ≡ true → ⊥) → t ≡ false
is_false true h = absurd (h refl)
is_false false h = refl

no_digit : (b : ℕ) → is_ascii_alphabetic b ≡ true → is_ascii_digit b ≡ true → ⊥
no_digit b e d = grind (arith, nat_tests)

-- what begins with a letter is no number
pub are_digits-letter : (most b : ℕ) (bs : List ℕ) → is_ascii_alphabetic b ≡ true → are_digits most (b ∷ bs) ≡ false
are_digits-letter most b bs e =
    is_false (are_digits most (b ∷ bs)) (λ d. no_digit b e ((are_digits-at most (b ∷ bs) d).1 0 (omega arith)))
