-- The tests that the first variables don't divide a monomial, one variable after another.
use Rattle.std.proofs.Common.{◌≡◌, ◌≢◌, ◌⊎◌, ℕ, zero, suc, ◌+◌, ◌<◌, ◌≤◌, ◌==◌, Bool, true, false, ◌&&◌, List, [], ◌∷◌, cond, slice_index, length, inl, inr, drop, eq-eqb, eqb-true, ne_eqb, true≢false, refl, sym, ◌∙◌, ap, ap₂, subst, arith}
use Rattle.std.specs.List.{AllByRecursion}
use Rattle.std.proofs.lemmas.Bool.{and_parts, cases_lt}
use Rattle.sf_algebra.specs.Divisibility.{Divides}
use Rattle.sf_algebra.specs.Monomials.{Monomial, VARIABLES, exponents, one, product, variable}
use Rattle.sf_algebra.specs.Terms.{Term}
use Rattle.sf_algebra.specs.Vectors.{Place}
use Rattle.sf_algebra.proofs.Monomials.Divisors.{same_monomial}
use Rattle.sf_variables.specs.Variables.{IsInVariables}
use Rattle.sf_hilbert.specs.Exactness.{exponent, is_free_of, is_without, kept}
use Rattle.sf_hilbert.proofs.Kept.Divided.{IsDividedBy}
use Rattle.sf_hilbert.proofs.Kept.Terms.{IsMultiplicative}

zero-sum : (x y : ℕ) → (x + y == 0) ≡ ((x == 0) && (y == 0))
zero-sum x y = elim (cases_zero x) [
  | inl none ↦ ap (λ n. n == 0) (omega arith) ∙ ap (λ b. b && (y == 0)) (sym (eq-eqb x 0 none))
  | inr some ↦ ne_eqb (x + y) 0 (omega arith) ∙ ap (λ b. b && (y == 0)) (sym (ne_eqb x 0 (omega arith)))
]
  where
    cases_zero : (n : ℕ) → (n ≡ 0) ⊎ (0 < n)
    cases_zero zero = inl refl
    cases_zero (suc n) = inr (omega arith)

exponent-product : (i : ℕ) → i < VARIABLES → (a b : Monomial) → exponent i (product a b) ≡ exponent i a + exponent i b
exponent-product zero h a b = refl
exponent-product (suc zero) h a b = refl
exponent-product (suc (suc zero)) h a b = refl
exponent-product (suc (suc (suc zero))) h a b = refl
exponent-product (suc (suc (suc (suc zero)))) h a b = refl
exponent-product (suc (suc (suc (suc (suc zero))))) h a b = refl
exponent-product (suc (suc (suc (suc (suc (suc i)))))) h a b = absurd (omega arith)

pub is_without-multiplicative : (i : ℕ) → i < VARIABLES → IsMultiplicative (is_without i)
is_without-multiplicative i h a b =
    ap (λ n. n == 0) (exponent-product i h a b) ∙ zero-sum (exponent i a) (exponent i b)

exchanged : (a b c d : Bool) → ((a && b) && (c && d)) ≡ ((a && c) && (b && d))
exchanged true true c d = refl
exchanged true false true d = refl
exchanged true false false d = refl
exchanged false b c d = refl

pub is_free_of-multiplicative : (n : ℕ) → n ≤ VARIABLES → IsMultiplicative (is_free_of n)
is_free_of-multiplicative zero h a b = refl
is_free_of-multiplicative (suc n) h a b =
    ap₂ (λ x y. x && y) (is_free_of-multiplicative n (omega arith) a b) (is_without-multiplicative n (omega arith) a b)
    ∙ exchanged (is_free_of n a) (is_free_of n b) (is_without n a) (is_without n b)

-- a variable divides itself, and no variable before it does
pub is_without-variable : (i : ℕ) → i < VARIABLES → is_without i (variable i) ≡ false
is_without-variable zero h = refl
is_without-variable (suc zero) h = refl
is_without-variable (suc (suc zero)) h = refl
is_without-variable (suc (suc (suc zero))) h = refl
is_without-variable (suc (suc (suc (suc zero)))) h = refl
is_without-variable (suc (suc (suc (suc (suc zero))))) h = refl
is_without-variable (suc (suc (suc (suc (suc (suc i)))))) h = absurd (omega arith)

pub is_free_of-variable : (i : ℕ) → i < VARIABLES → is_free_of i (variable i) ≡ true
is_free_of-variable zero h = refl
is_free_of-variable (suc zero) h = refl
is_free_of-variable (suc (suc zero)) h = refl
is_free_of-variable (suc (suc (suc zero))) h = refl
is_free_of-variable (suc (suc (suc (suc zero)))) h = refl
is_free_of-variable (suc (suc (suc (suc (suc zero))))) h = refl
is_free_of-variable (suc (suc (suc (suc (suc (suc i)))))) h = absurd (omega arith)

positive_from : (x : ℕ) → (x == 0) ≡ false → 0 < x
positive_from zero e = absurd (true≢false e)
positive_from (suc x) e = omega arith

-- what isn't without a variable is divided by it
pub Divides-variable : (i : ℕ) → i < VARIABLES → (a : Monomial) → is_without i a ≡ false → Divides (variable i) a
Divides-variable zero h a e = omega (arith, positive_from a.e1 e)
Divides-variable (suc zero) h a e = omega (arith, positive_from a.e2 e)
Divides-variable (suc (suc zero)) h a e = omega (arith, positive_from a.e3 e)
Divides-variable (suc (suc (suc zero))) h a e = omega (arith, positive_from a.e4 e)
Divides-variable (suc (suc (suc (suc zero)))) h a e = omega (arith, positive_from a.e5 e)
Divides-variable (suc (suc (suc (suc (suc zero))))) h a e = omega (arith, positive_from a.e6 e)
Divides-variable (suc (suc (suc (suc (suc (suc i)))))) h a e = absurd (omega arith)

-- a row of which nothing is without a variable is divided by it
pub IsDividedBy-variable : (i : ℕ) → i < VARIABLES → (ts : List (Term Place)) → kept (is_without i) ts ≡ []
    → IsDividedBy (variable i) ts
IsDividedBy-variable i h [] e = tt
IsDividedBy-variable i h (t ∷ ts) e =
    let parts = first (is_without i t.at.monomial) e in
    (Divides-variable i h t.at.monomial (parts.0), IsDividedBy-variable i h ts parts.1)
  where
    first : (b : Bool) → cond b (t ∷ kept (is_without i) ts) (kept (is_without i) ts) ≡ []
        → (b ≡ false) × (kept (is_without i) ts ≡ [])
    first true l = absurd (omega (arith, ap length l))
    first false l = (refl, l)

-- 1 is free of all variables, and of the monomials over the first n it alone is free of these
is_without-one : (i : ℕ) → i < VARIABLES → is_without i one ≡ true
is_without-one zero h = refl
is_without-one (suc zero) h = refl
is_without-one (suc (suc zero)) h = refl
is_without-one (suc (suc (suc zero))) h = refl
is_without-one (suc (suc (suc (suc zero)))) h = refl
is_without-one (suc (suc (suc (suc (suc zero))))) h = refl
is_without-one (suc (suc (suc (suc (suc (suc i)))))) h = absurd (omega arith)

pub is_free_of-one : (n : ℕ) → n ≤ VARIABLES → is_free_of n one ≡ true
is_free_of-one zero h = refl
is_free_of-one (suc n) h = ap₂ (λ x y. x && y) (is_free_of-one n (omega arith)) (is_without-one n (omega arith))

free_exponent : (n : ℕ) (a : Monomial) → is_free_of n a ≡ true → (i : ℕ) → i < n → exponent i a ≡ 0
free_exponent zero a e i h = absurd (omega arith)
free_exponent (suc n) a e i h =
    let parts = and_parts (is_free_of n a) (is_without n a) e in
    elim (cases_lt i n) [
      | inl before ↦ free_exponent n a parts.0 i before
      | inr after ↦
          let same : n ≡ i = omega arith in
          subst (λ k. exponent k a ≡ 0) same (eqb-true (exponent n a) 0 parts.1)
    ]

index_zero : (xs : List ℕ) (n i : ℕ) → n ≤ i → AllByRecursion (λ e. e ≡ 0) (drop n xs) → slice_index xs i ≡ 0
index_zero [] n i h k = refl
index_zero (x ∷ xs) zero zero h k = k.0
index_zero (x ∷ xs) zero (suc i) h k = index_zero xs zero i (omega arith) k.1
index_zero (x ∷ xs) (suc n) zero h k = absurd (omega arith)
index_zero (x ∷ xs) (suc n) (suc i) h k = index_zero xs n i (omega arith) k

pub one_if_free : (n : ℕ) (a : Monomial) → IsInVariables n a → is_free_of n a ≡ true → a ≡ one
one_if_free n a inside free = same_monomial a one (at 0) (at 1) (at 2) (at 3) (at 4) (at 5)
  where
    at : (i : ℕ) → exponent i a ≡ 0
    at i = elim (cases_lt i n) [
      | inl before ↦ free_exponent n a free i before
      | inr after ↦ index_zero (exponents a) n i after inside
    ]

pub not_free : (n : ℕ) (a : Monomial) → IsInVariables n a → a ≢ one → is_free_of n a ≡ false
not_free n a inside not_one = decided (is_free_of n a) (λ e. not_one (one_if_free n a inside e))
  where
    decided : (b : Bool) → (b ≡ true → ⊥) → b ≡ false
    decided true not_true = absurd (not_true refl)
    decided false not_true = refl
