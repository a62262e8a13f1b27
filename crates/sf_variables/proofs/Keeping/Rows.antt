-- Rows over the first n variables: sums, negatives, differences, multiples, combinations, parts, entries.
use Rattle.std.proofs.Common.{ℕ, ◌*◌, List, [], ◌∷◌, map}
use Rattle.std.specs.declared.cmp.Ordering.{Ordering}
use Rattle.sf_algebra.specs.MatrixOperations.{kronecker_terms, moved, part_terms, row_at, row_combination}
use Rattle.sf_algebra.specs.Monomials.{Monomial, monomial_cmp, product}
use Rattle.sf_algebra.specs.Multiples.{place_product, term_product, multiple, negative, combination, combination_terms}
use Rattle.sf_algebra.specs.Polynomials.{polynomial_sum, polynomial_product}
use Rattle.sf_algebra.specs.Rings.{Ring}
use Rattle.sf_algebra.specs.Terms.{Term}
use Rattle.sf_algebra.specs.VectorOperations.{row_sum, row_difference, row_multiple}
use Rattle.sf_algebra.specs.Vectors.{Place, Vector, place_cmp}
use Rattle.sf_algebra.proofs.Basics.Lists.{AllByRecursion-append}
use Rattle.sf_algebra.proofs.GradedMatrices.MatrixRows.{row_at-each}
use Rattle.sf_algebra.proofs.GradedMatrices.PartTerms.{AllByRecursion-part_terms}
use Rattle.sf_algebra.proofs.GradedMatrices.Stacks.{AllByRecursion-map}
use Rattle.sf_algebra.proofs.Multiplying.Combinations.{factor}
use Rattle.sf_algebra.proofs.Terms.Negatives.{EachPlace-negative}
use Rattle.sf_algebra.proofs.Terms.Normal.{EachPlace, EachPlace-normal, EachPlace-add}
use Rattle.sf_variables.specs.Variables.{IsInVariables, IsPolynomialInVariables, IsRowInVariables, AreInVariables}
use Rattle.sf_variables.proofs.Keeping.Monomials.{IsInVariables-product}

-- a fact of places that products with some monomials keep
module _ {K : Type 0} (P : K → Type 0) (Q : Monomial → Type 0) (cmp : K → K → Ordering) (act : Monomial → K → K)
    (keeps : (a : Monomial) (k : K) → Q a → P k → P (act a k)) (p : ℕ) where
  EachPlace-products : (s : Term Monomial) (us : List (Term K)) → Q s.at → EachPlace P us
      → EachPlace P (map (term_product act p s) us)
  EachPlace-products s [] h k = tt
  EachPlace-products s (u ∷ us) h k = (keeps s.at u.at h k.0, EachPlace-products s us h k.1)

  EachPlace-multiple : (s : Term Monomial) (us : List (Term K)) → Q s.at → EachPlace P us
      → EachPlace P (multiple cmp act p s us)
  unfolding multiple
  EachPlace-multiple s us h k = EachPlace-normal P cmp p _ (EachPlace-products s us h k)

  module _ {C : Type 0} (monomial : C → Monomial) (row : C → List (Term K)) (rows : (k : C) → EachPlace P (row k)) where
    EachPlace-combination_terms : (c : List (Term C)) → EachPlace (λ k. Q (monomial k)) c
        → EachPlace P (combination_terms act p monomial row c)
    unfolding combination_terms
    EachPlace-combination_terms [] h = tt
    EachPlace-combination_terms (t ∷ ts) h =
        AllByRecursion-append _ _ _ (EachPlace-products (factor monomial t) (row t.at) h.0 (rows t.at))
        (EachPlace-combination_terms ts h.1)

    EachPlace-combination : (c : List (Term C)) → EachPlace (λ k. Q (monomial k)) c
        → EachPlace P (combination cmp act p monomial row c)
    unfolding combination
    EachPlace-combination c h = EachPlace-normal P cmp p _ (EachPlace-combination_terms c h)

module _ (n : ℕ) where
  abbrev IsAtVariables : Place → Type 0
  IsAtVariables k = IsInVariables n k.monomial

  product_keeps : (a : Monomial) (k : Place) → IsInVariables n a → IsAtVariables k → IsAtVariables (place_product a k)
  product_keeps a k = IsInVariables-product n a k.monomial

  pub IsRowInVariables-sum : (ring : Ring) (us vs : List (Term Place)) → IsRowInVariables n us → IsRowInVariables n vs
      → IsRowInVariables n (row_sum ring us vs)
  IsRowInVariables-sum ring us vs = EachPlace-add IsAtVariables (place_cmp ring.weights) ring.modulus us vs

  pub IsRowInVariables-negative : (p : ℕ) (us : List (Term Place)) → IsRowInVariables n us
      → IsRowInVariables n (negative p us)
  IsRowInVariables-negative = EachPlace-negative IsAtVariables

  pub IsRowInVariables-difference : (ring : Ring) (us vs : List (Term Place)) → IsRowInVariables n us
      → IsRowInVariables n vs → IsRowInVariables n (row_difference ring us vs)
  IsRowInVariables-difference ring us vs h k =
      IsRowInVariables-sum ring us (negative ring.modulus vs) h (IsRowInVariables-negative ring.modulus vs k)

  pub IsRowInVariables-multiple : (ring : Ring) (s : Term Monomial) (us : List (Term Place)) → IsInVariables n s.at
      → IsRowInVariables n us → IsRowInVariables n (row_multiple ring s us)
  IsRowInVariables-multiple ring =
      EachPlace-multiple IsAtVariables (IsInVariables n) (place_cmp ring.weights) place_product product_keeps ring.modulus

  pub IsRowInVariables-combination : (ring : Ring) (rows : List Vector) (c : List (Term Place)) → AreInVariables n rows
      → IsRowInVariables n c → IsRowInVariables n (row_combination ring rows c)
  IsRowInVariables-combination ring rows c h =
      EachPlace-combination IsAtVariables (IsInVariables n) (place_cmp ring.weights) place_product product_keeps
      ring.modulus (λ (k : Place). k.monomial) (λ (k : Place). row_at rows k.position)
      (λ k. row_at-each (IsRowInVariables n) tt rows h k.position) c

  IsRowInVariables-moved : (by : ℕ) (ts : List (Term Place)) → IsRowInVariables n ts → IsRowInVariables n (moved by ts)
  IsRowInVariables-moved by ts h = AllByRecursion-map _ _ ts h

  pub IsRowInVariables-kronecker_terms : (ring : Ring) (m : ℕ) (v w : List (Term Place)) → IsRowInVariables n v
      → IsRowInVariables n w → IsRowInVariables n (kronecker_terms ring m v w)
  IsRowInVariables-kronecker_terms ring m v w h k =
      EachPlace-combination IsAtVariables (IsInVariables n) (place_cmp ring.weights) place_product product_keeps
      ring.modulus (λ (k : Place). k.monomial) (λ (k : Place). moved (k.position * m) w)
      (λ l. IsRowInVariables-moved (l.position * m) w k) v h

  pub IsRowInVariables-part : (from to : ℕ) (ts : List (Term Place)) → IsRowInVariables n ts
      → IsRowInVariables n (part_terms from to ts)
  IsRowInVariables-part from to ts h = AllByRecursion-part_terms _ _ from to (λ t reached within k. k) ts h

  pub IsPolynomialInVariables-sum : (ring : Ring) (us vs : List (Term Monomial)) → IsPolynomialInVariables n us
      → IsPolynomialInVariables n vs → IsPolynomialInVariables n (polynomial_sum ring us vs)
  IsPolynomialInVariables-sum ring us vs = EachPlace-add (IsInVariables n) (monomial_cmp ring.weights) ring.modulus us vs

  pub IsPolynomialInVariables-product : (ring : Ring) (us vs : List (Term Monomial)) → IsPolynomialInVariables n us
      → IsPolynomialInVariables n vs → IsPolynomialInVariables n (polynomial_product ring us vs)
  IsPolynomialInVariables-product ring us vs h k =
      EachPlace-combination (IsInVariables n) (IsInVariables n) (monomial_cmp ring.weights) product
      (IsInVariables-product n) ring.modulus (λ a. a) (λ _. vs) (λ _. k) us h
