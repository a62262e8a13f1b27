-- How many variables there are up to the last one that monomials have.
use Rattle.std.proofs.Common.{◌≡◌, ℕ, zero, suc, ◌+◌, ◌-◌, ◌<◌, ◌≤◌, List, [], ◌∷◌, drop, sym, subst, arith}
use Rattle.std.specs.List.{slice_index}
use Rattle.sf_algebra.specs.Monomials.{VARIABLES, Monomial, exponents}
use Rattle.sf_algebra.specs.Terms.{Term}
use Rattle.sf_algebra.specs.Vectors.{Place, Vector}
use Rattle.sf_algebra.proofs.Basics.Lists.{AllByRecursion-weaken}
use Rattle.sf_variables.specs.Variables.{AreInVariables, IsInVariables, IsRowInVariables}
use Rattle.sf_variables.proofs.Keeping.Monomials.{AreZero, AreZero-drop, IsInVariables-more}

-- one more exponent is 0
AreZero-earlier : (n : ℕ) (xs : List ℕ) → slice_index xs n ≡ 0 → AreZero (drop (suc n) xs) → AreZero (drop n xs)
AreZero-earlier n [] e h = AreZero-drop n [] tt
AreZero-earlier zero (x ∷ xs) e h = (e, h)
AreZero-earlier (suc n) (x ∷ xs) e h = AreZero-earlier n xs e h

pub IsInVariables-earlier : (a : Monomial) (k : ℕ) → k < VARIABLES → slice_index (exponents a) (VARIABLES - 1 - k) ≡ 0
    → IsInVariables (VARIABLES - k) a → IsInVariables (VARIABLES - (k + 1)) a
IsInVariables-earlier a k h e over =
    let last : suc (VARIABLES - 1 - k) ≡ VARIABLES - k = omega arith in
    let first : VARIABLES - 1 - k ≡ VARIABLES - (k + 1) = omega arith in
    subst (λ n. IsInVariables n a) first
    (AreZero-earlier (VARIABLES - 1 - k) (exponents a) e (subst (λ n. IsInVariables n a) (sym last) over))

module _ (n m : ℕ) (h : n ≤ m) where
  pub IsRowInVariables-more : (ts : List (Term Place)) → IsRowInVariables n ts → IsRowInVariables m ts
  IsRowInVariables-more =
      AllByRecursion-weaken _ _ (λ (t : Term Place). IsInVariables-more n m h t.at.monomial)

  pub AreInVariables-more : (vs : List Vector) → AreInVariables n vs → AreInVariables m vs
  AreInVariables-more =
      AllByRecursion-weaken _ _ (λ (v : Vector). IsRowInVariables-more v.terms)
