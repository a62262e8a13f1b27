-- A term that was read has small exponents.
use Rattle.std.proofs.Common.{◌≡◌, ℕ, ◌≤◌, List, [], ◌∷◌, length, Bool, true, false, cond, Option, Some, None, refl, arith, ◌&&◌, nat_lt, nat_le}
use Rattle.std.specs.Prelude.{IfSome}
use Rattle.std.specs.Option.{option_and_then, option_map}
use Rattle.std.specs.Char.{is_ascii_digit}
use Rattle.std.specs.List.{AllByRecursion, list_all}
use Rattle.std.specs.Str.Parse.{AllDigits}
use Rattle.std.proofs.Math.Nat.{pow-le-pow_right}
use Rattle.std.proofs.lemmas.Bool.{leb-true}
use Rattle.std.proofs.lemmas.Int.Digits.{digits_value-lt}
use Rattle.sf_text.specs.MatrixText.{caret, all_of, exponent_of, factor_written}
use Rattle.sf_grammar.specs.Words.{are_digits, number_value, is_name, before, behind}
use Rattle.sf_text.proofs.Digits.{&&-true, digit_value-digit, is_ascii_digit-bounds}

abbrev pub IsSmallFactor : List ℕ × ℕ → Type 0
IsSmallFactor f = f.1 ≤ 999

AllDigits-digits : (word : List ℕ) → list_all is_ascii_digit word ≡ true → AllDigits 10 word
AllDigits-digits [] e = tt
AllDigits-digits (c ∷ cs) e =
    let both = &&-true (is_ascii_digit c) (list_all is_ascii_digit cs) e in
    let value = digit_value-digit c both.0 in
    let bounds = is_ascii_digit-bounds c both.0 in
    (omega (arith, value, bounds.0, bounds.1), AllDigits-digits cs both.1)

pub number_value-small : (word : List ℕ) → are_digits 3 word ≡ true → number_value word ≤ 999
number_value-small word e =
    let filled = &&-true (nat_lt 0 (length word)) (nat_le (length word) 3 && list_all is_ascii_digit word) e in
    let both = &&-true (nat_le (length word) 3) (list_all is_ascii_digit word) filled.1 in
    let below = digits_value-lt 10 word (AllDigits-digits word both.1) in
    let power = pow-le-pow_right {n = 10} (omega arith) {i = length word} {j = 3} (leb-true _ _ both.0) in
    omega (arith, below, power)

exponent_of-small : (text : Option (List ℕ)) → IfSome (exponent_of text) (λ n. n ≤ 999)
exponent_of-small None = omega arith
exponent_of-small (Some digits) = by (are_digits 3 digits) (number_value-small digits)
  where
    by : (t : Bool) → (t ≡ true → number_value digits ≤ 999)
        → IfSome (cond t (Some (number_value digits)) None) (λ n. n ≤ 999)
    by true small = small refl
    by false small = tt

pub factor_of-small : (text : List ℕ) → IfSome (factor_written text) IsSmallFactor
factor_of-small text = by (exponent_of (behind caret text)) (exponent_of-small (behind caret text))
  where
    named : (t : Bool) (name : List ℕ) (n : ℕ) → n ≤ 999 → IfSome (cond t (Some (name, n)) None) IsSmallFactor
    named true name n small = small
    named false name n small = tt

    by : (o : Option ℕ) → IfSome o (λ n. n ≤ 999)
        → IfSome (option_and_then (λ n. cond (is_name (before caret text)) (Some (before caret text, n)) None) o)
        IsSmallFactor
    by None small = tt
    by (Some n) small = named (is_name (before caret text)) (before caret text) n small

pub all_of-small : (texts : List (List ℕ)) → IfSome (all_of factor_written texts) (AllByRecursion IsSmallFactor)
all_of-small [] = tt
all_of-small (text ∷ texts) = by (factor_written text) (all_of factor_written texts) (factor_of-small text) (all_of-small texts)
  where
    by : (o : Option (List ℕ × ℕ)) (p : Option (List (List ℕ × ℕ))) → IfSome o IsSmallFactor
        → IfSome p (AllByRecursion IsSmallFactor)
        → IfSome (option_and_then (λ y. option_map (λ ys. y ∷ ys) p) o) (AllByRecursion IsSmallFactor)
    by None p one others = tt
    by (Some f) None one others = tt
    by (Some f) (Some fs) one others = (one, others)

pub ruleset small_rules = (all_of-small)
