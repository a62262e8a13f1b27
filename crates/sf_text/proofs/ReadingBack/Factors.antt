-- The factors of a monomial, as they are printed, read back.
use Rattle.std.proofs.Common.{◌≡◌, ◌≢◌, ℕ, ◌≤◌, List, [], ◌∷◌, ◌++◌, length, drop, ◌==◌, if◌then◌else◌, Bool, true, false, cond, Option, Some, codes, refl, sym, ap, subst, ◌∙◌, ◌&&◌, nat_le, append_assoc, arith}
use Rattle.std.specs.Char.{is_ascii_alphabetic}
use Rattle.std.specs.Fmt.{decimal}
use Rattle.std.specs.List.{AllByRecursion, list_all}
use Rattle.std.proofs.lemmas.Bool.Decides.{nat_tests}
use Rattle.sf_algebra.specs.Printing.{factor_texts, power_text, semicolon}
use Rattle.sf_algebra.proofs.Basics.Lists.{AllByRecursion-append, AllByRecursion-weaken}
use Rattle.sf_text.specs.MatrixText.{caret, closing, all_of, exponent_of, factor_written}
use Rattle.sf_grammar.specs.Words.{before, behind, is_name, is_name_byte, is_number}
use Rattle.sf_text.proofs.Digits.{&&-true}
use Rattle.sf_text.proofs.ReadingBack.Joined.{Lacks, before-first, behind-first, before-whole, behind-whole}
use Rattle.sf_text.proofs.ReadingBack.Numbers.{is_name-each, decimal-each, are_digits-decimal, number_value-decimal, are_digits-letter}

abbrev pub AreNames : List (List ℕ) → Type 0
AreNames names = AllByRecursion (λ name. is_name name ≡ true) names

abbrev pub AreSmall : List ℕ → Type 0
AreSmall es = AllByRecursion (λ e. e ≤ 999) es

-- a byte of a factor is none that separates what is greater
abbrev pub IsFactorByte : ℕ → Type 0
IsFactorByte b = (48 ≤ b) × (b ≢ semicolon) × (b ≢ closing)

-- what is read of the factors of a monomial
abbrev pub raw_factors : List (List ℕ) → List ℕ → List (List ℕ × ℕ)
raw_factors [] es = []
raw_factors (name ∷ names) [] = []
raw_factors (name ∷ names) (e ∷ es) = if e == 0 then raw_factors names es else (name, e) ∷ raw_factors names es

factor_written-parts : (text name : List ℕ) (tail : Option (List ℕ)) (e : ℕ) → before caret text ≡ name
    → behind caret text ≡ tail → is_name name ≡ true → exponent_of tail ≡ Some e → factor_written text ≡ Some (name, e)
factor_written-parts text name tail e front back named exponent = rw (front, back, exponent, named)

exponent_of-decimal : (e : ℕ) → e ≤ 999 → exponent_of (Some (decimal e)) ≡ Some e
exponent_of-decimal e h =
    let digits = are_digits-decimal 3 e (omega arith) (omega arith) (omega arith) in
    rw (digits, number_value-decimal e (omega arith))

behind_name : (name : List ℕ) (e : ℕ) → name ++ codes "^" ++ decimal e ≡ name ++ caret ∷ decimal e
behind_name name e = append_assoc name (codes "^") (decimal e)

module _ (name : List ℕ) (named : is_name name ≡ true) (e : ℕ) (small : e ≤ 999) where
  no_caret : Lacks caret name
  no_caret = AllByRecursion-weaken _ _ (λ b h. h.3) name (is_name-each name named)

  pub factor_written-power : factor_written (power_text name e) ≡ Some (name, e)
  factor_written-power = by (e == 1) refl
    where
      by : (t : Bool) → (e == 1) ≡ t → factor_written (cond t name (name ++ codes "^" ++ decimal e)) ≡ Some (name, e)
      by true is =
          let one : 1 ≡ e = grind (arith, nat_tests) in
          factor_written-parts name name _ e (before-whole caret name no_caret)
          (behind-whole caret name no_caret) named (ap Some one)
      by false is =
          ap factor_written (behind_name name e)
          ∙ factor_written-parts (name ++ caret ∷ decimal e) name _ e (before-first caret name (decimal e) no_caret)
          (behind-first caret name (decimal e) no_caret) named (exponent_of-decimal e small)

  pub power_text-each : AllByRecursion IsFactorByte (power_text name e)
  power_text-each = by (e == 1)
    where
      bytes : AllByRecursion IsFactorByte name
      bytes = AllByRecursion-weaken _ _ (λ b h. (h.0, h.1, h.2)) name (is_name-each name named)

      digits : AllByRecursion IsFactorByte (decimal e)
      digits =
          AllByRecursion-weaken _ _ (λ b h. (h.0, λ is. omega (arith, h.1), λ is. omega (arith, h.1))) (decimal e) (decimal-each e (omega arith))

      by : (t : Bool) → AllByRecursion IsFactorByte (cond t name (name ++ codes "^" ++ decimal e))
      by true = bytes
      by false =
          subst (AllByRecursion IsFactorByte) (sym (behind_name name e))
          (AllByRecursion-append IsFactorByte name (caret ∷ decimal e) bytes ((omega arith, λ is. omega arith, λ is. omega arith), digits))

-- a factor is no number
pub is_number-power : (name : List ℕ) (e : ℕ) → is_name name ≡ true → is_number (power_text name e) ≡ false
is_number-power [] e named = cc
is_number-power (b ∷ bs) e named =
    by (e == 1) (&&-true (is_ascii_alphabetic b) (nat_le (length bs) 31 && list_all is_name_byte bs) named).0
  where
    by : (t : Bool) → is_ascii_alphabetic b ≡ true
        → is_number (cond t (b ∷ bs) ((b ∷ bs) ++ codes "^" ++ decimal e)) ≡ false
    by true first = are_digits-letter 18 b bs first
    by false first = are_digits-letter 18 b (bs ++ codes "^" ++ decimal e) first

pub factors-read : (names : List (List ℕ)) (es : List ℕ) → AreNames names → AreSmall es
    → all_of factor_written (factor_texts names es) ≡ Some (raw_factors names es)
factors-read [] es named small = refl
factors-read (name ∷ names) [] named small = refl
factors-read (name ∷ names) (e ∷ es) named small = by (e == 0) (factors-read names es named.1 small.1)
  where
    by : (t : Bool) → all_of factor_written (factor_texts names es) ≡ Some (raw_factors names es)
        → all_of factor_written (cond t (factor_texts names es) (power_text name e ∷ factor_texts names es))
        ≡ Some (cond t (raw_factors names es) ((name, e) ∷ raw_factors names es))
    by true rest = rest
    by false rest = rw (rest, factor_written-power name named.0 e small.0)

pub factor_texts-each : (names : List (List ℕ)) (es : List ℕ) → AreNames names → AreSmall es
    → AllByRecursion (AllByRecursion IsFactorByte) (factor_texts names es)
factor_texts-each [] es named small = tt
factor_texts-each (name ∷ names) [] named small = tt
factor_texts-each (name ∷ names) (e ∷ es) named small = by (e == 0) (factor_texts-each names es named.1 small.1)
  where
    by : (t : Bool) → AllByRecursion (AllByRecursion IsFactorByte) (factor_texts names es)
        → AllByRecursion (AllByRecursion IsFactorByte)
        (cond t (factor_texts names es) (power_text name e ∷ factor_texts names es))
    by true rest = rest
    by false rest = (power_text-each name named.0 e small.0, rest)

-- none of the factors is a number
pub factor_texts-names : (names : List (List ℕ)) (es : List ℕ) → AreNames names
    → AllByRecursion (λ text. is_number text ≡ false) (factor_texts names es)
factor_texts-names [] es named = tt
factor_texts-names (name ∷ names) [] named = tt
factor_texts-names (name ∷ names) (e ∷ es) named = by (e == 0) (factor_texts-names names es named.1)
  where
    by : (t : Bool) → AllByRecursion (λ text. is_number text ≡ false) (factor_texts names es)
        → AllByRecursion (λ text. is_number text ≡ false)
        (cond t (factor_texts names es) (power_text name e ∷ factor_texts names es))
    by true rest = rest
    by false rest = (is_number-power name e named.0, rest)

pub length-raw_factors : (names : List (List ℕ)) (es : List ℕ) → length (raw_factors names es) ≤ length names
length-raw_factors [] es = omega arith
length-raw_factors (name ∷ names) [] = omega arith
length-raw_factors (name ∷ names) (e ∷ es) = by (e == 0) (length-raw_factors names es)
  where
    by : (t : Bool) → length (raw_factors names es) ≤ length names
        → length (cond t (raw_factors names es) ((name, e) ∷ raw_factors names es)) ≤ length (name ∷ names)
    by true rest = omega arith
    by false rest = omega arith

-- where no factor is printed, all exponents are 0
pub factor_texts-none : (names : List (List ℕ)) (es : List ℕ) → factor_texts names es ≡ []
    → AllByRecursion (λ e. e ≡ 0) (drop (length names) es) → AllByRecursion (λ e. e ≡ 0) es
factor_texts-none [] es none zeros = zeros
factor_texts-none (name ∷ names) [] none zeros = tt
factor_texts-none (name ∷ names) (e ∷ es) none zeros =
    by (e == 0) refl none (λ rest. factor_texts-none names es rest zeros)
  where
    by : (t : Bool) → (e == 0) ≡ t → cond t (factor_texts names es) (power_text name e ∷ factor_texts names es) ≡ []
        → (factor_texts names es ≡ [] → AllByRecursion (λ n. n ≡ 0) es) → AllByRecursion (λ n. n ≡ 0) (e ∷ es)
    by true is rest others = (grind (arith, nat_tests), others rest)
    by false is rest others = absurd (omega (arith, ap length rest))
