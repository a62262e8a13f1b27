-- Monomials over the first n variables: products, divisors, quotients and least common multiples.
use Rattle.std.proofs.Common.{◌≡◌, ℕ, zero, suc, ◌+◌, ◌-◌, ◌<◌, ◌≤◌, List, [], ◌∷◌, drop, subst, arith}
use Rattle.std.specs.List.{AllByRecursion}
use Rattle.std.proofs.lemmas.List.{drop-drop}
use Rattle.sf_algebra.specs.Divisibility.{Divides, quotient, lcm}
use Rattle.sf_algebra.specs.Monomials.{Monomial, exponents, one, product, variable}
use Rattle.sf_algebra.proofs.GradedMatrices.Ranges.{AllByRecursion-drop}
use Rattle.sf_variables.specs.Variables.{IsInVariables}

-- each number of a third list is 0 where those of two lists are
abbrev VanishWith : List ℕ → List ℕ → List ℕ → Type 0
VanishWith xs ys [] = Unit {0}
VanishWith (x ∷ xs) (y ∷ ys) (z ∷ zs) = (x ≡ 0 → y ≡ 0 → z ≡ 0) × VanishWith xs ys zs
VanishWith xs ys (z ∷ zs) = ⊥

abbrev pub AreZero : List ℕ → Type 0
AreZero = AllByRecursion (λ e. e ≡ 0)

pub AreZero-drop : (n : ℕ) (xs : List ℕ) → AreZero xs → AreZero (drop n xs)
AreZero-drop = AllByRecursion-drop (λ (e : ℕ). e ≡ 0)

AreZero-with : (n : ℕ) (xs ys zs : List ℕ) → VanishWith xs ys zs → AreZero (drop n xs) → AreZero (drop n ys)
    → AreZero (drop n zs)
AreZero-with n xs ys [] f h k = AreZero-drop n [] tt
AreZero-with zero (x ∷ xs) (y ∷ ys) (z ∷ zs) f h k = (f.0 h.0 k.0, AreZero-with zero xs ys zs f.1 h.1 k.1)
AreZero-with (suc n) (x ∷ xs) (y ∷ ys) (z ∷ zs) f h k = AreZero-with n xs ys zs f.1 h k
AreZero-with n [] ys (z ∷ zs) f h k = absurd f
AreZero-with n (x ∷ xs) [] (z ∷ zs) f h k = absurd f

module _ (n : ℕ) where
  pub IsInVariables-product : (a b : Monomial) → IsInVariables n a → IsInVariables n b → IsInVariables n (product a b)
  IsInVariables-product a b =
      AreZero-with n (exponents a) (exponents b) (exponents (product a b)) (omega arith)

  pub IsInVariables-divisor : (a b : Monomial) → Divides a b → IsInVariables n b → IsInVariables n a
  IsInVariables-divisor a b d h = AreZero-with n (exponents b) (exponents b) (exponents a) (omega arith) h h

  pub IsInVariables-quotient : (a b : Monomial) → IsInVariables n a → IsInVariables n (quotient a b)
  IsInVariables-quotient a b h =
      AreZero-with n (exponents a) (exponents a) (exponents (quotient a b)) (omega arith) h h

  pub IsInVariables-lcm : (a b : Monomial) → IsInVariables n a → IsInVariables n b → IsInVariables n (lcm a b)
  IsInVariables-lcm a b = AreZero-with n (exponents a) (exponents b) (exponents (lcm a b)) (omega arith)

  pub IsInVariables-one : IsInVariables n one
  IsInVariables-one = AreZero-drop n (exponents one) (omega arith)

-- what is over fewer variables
pub IsInVariables-more : (n m : ℕ) → n ≤ m → (a : Monomial) → IsInVariables n a → IsInVariables m a
IsInVariables-more n m h a k =
    let whole : n + (m - n) ≡ m = omega arith in
    subst (λ i. IsInVariables i a) whole
    (subst AreZero (drop-drop (m - n) n (exponents a))
    (AreZero-drop (m - n) (drop n (exponents a)) k))

-- a variable is over those up to it
variable_itself : (i : ℕ) → IsInVariables (suc i) (variable i)
variable_itself zero = omega arith
variable_itself (suc zero) = omega arith
variable_itself (suc (suc zero)) = omega arith
variable_itself (suc (suc (suc zero))) = omega arith
variable_itself (suc (suc (suc (suc zero)))) = omega arith
variable_itself (suc (suc (suc (suc (suc i))))) = AreZero-drop i [] tt

pub IsInVariables-variable : (n i : ℕ) → i < n → IsInVariables n (variable i)
IsInVariables-variable n i h = IsInVariables-more (suc i) n h (variable i) (variable_itself i)
