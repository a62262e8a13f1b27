-- Degrees of the terms of sums, multiples and combinations.
use Rattle.std.proofs.Common.{◌≡◌, ℕ, zero, suc, List, [], ◌∷◌, map, sym, ◌∙◌, ap, subst, arith, ℤ, pos, ◌+ℤ◌}
use Rattle.std.proofs.lemmas.Int.{ints}
use Rattle.std.specs.List.{AllByRecursion}
use Rattle.sf_algebra.specs.Matrices.{degrees_of}
use Rattle.sf_algebra.specs.MatrixOperations.{row_at, row_combination}
use Rattle.sf_algebra.specs.Monomials.{Monomial, monomial_degree}
use Rattle.sf_algebra.specs.Multiples.{place_product, term_product, multiple, negative, combination, combination_terms}
use Rattle.sf_algebra.specs.Rings.{Ring, Weights}
use Rattle.sf_algebra.specs.Sums.{normal}
use Rattle.sf_algebra.specs.Terms.{Term}
use Rattle.sf_algebra.specs.VectorOperations.{row_sum, row_multiple}
use Rattle.sf_algebra.specs.Vectors.{Place, Vector, place_cmp, generator_degree, place_degree, IsTermOfDegree, IsHomogeneous}
use Rattle.sf_algebra.proofs.Basics.Lists.{AllByRecursion-append}
use Rattle.sf_algebra.proofs.Monomials.Products.{monomial_degree-product}
use Rattle.sf_algebra.proofs.Multiplying.Combinations.{factor}
use Rattle.sf_algebra.proofs.Terms.Negatives.{EachPlace-negative}
use Rattle.sf_algebra.proofs.Terms.Normal.{EachPlace-normal, EachPlace-add}

-- the rows are homogeneous, each of its degree
abbrev pub HasHomogeneousRows : Weights → List ℤ → List Vector → Type 0
HasHomogeneousRows weights target = AllByRecursion (λ (v : Vector). IsHomogeneous weights target v.degree v.terms)

-- the row at a position has the degree at that position
pub IsHomogeneous-row_at : (weights : Weights) (target : List ℤ) (rows : List Vector)
    → HasHomogeneousRows weights target rows → (i : ℕ)
    → IsHomogeneous weights target (generator_degree (degrees_of rows) i) (row_at rows i)
IsHomogeneous-row_at weights target [] h i = tt
IsHomogeneous-row_at weights target (v ∷ vs) h zero = h.0
IsHomogeneous-row_at weights target (v ∷ vs) h (suc i) = IsHomogeneous-row_at weights target vs h.1 i

module _ (target : List ℤ) where
  -- a product has the sum of the degrees
  pub place_degree-term_product : (ring : Ring) (s : Term Monomial) (u : Term Place)
      → place_degree ring.weights target (term_product place_product ring.modulus s u).at
      ≡ place_degree ring.weights target u.at +ℤ pos (monomial_degree ring.weights s.at)
  place_degree-term_product ring s u = omega (arith, ints, monomial_degree-product ring.weights s.at u.at.monomial)

  IsHomogeneous-term_products : (ring : Ring) (d : ℤ) (s : Term Monomial) (us : List (Term Place))
      → IsHomogeneous ring.weights target d us
      → IsHomogeneous ring.weights target (d +ℤ pos (monomial_degree ring.weights s.at))
      (map (term_product place_product ring.modulus s) us)
  IsHomogeneous-term_products ring d s [] h = tt
  IsHomogeneous-term_products ring d s (u ∷ us) h =
      ((h.0.0, ap (λ e. e +ℤ pos (monomial_degree ring.weights s.at)) h.0.1 ∙ sym (place_degree-term_product ring s u)), IsHomogeneous-term_products ring d s us h.1)

  pub IsHomogeneous-normal : (ring : Ring) (d : ℤ) (us : List (Term Place)) → IsHomogeneous ring.weights target d us
      → IsHomogeneous ring.weights target d (normal (place_cmp ring.weights) ring.modulus us)
  IsHomogeneous-normal ring d us h =
      EachPlace-normal (λ k. IsTermOfDegree ring.weights target d (record { at = k; coefficient = 0 }))
      (place_cmp ring.weights) ring.modulus us h

  pub IsHomogeneous-add : (ring : Ring) (d : ℤ) (us vs : List (Term Place)) → IsHomogeneous ring.weights target d us
      → IsHomogeneous ring.weights target d vs → IsHomogeneous ring.weights target d (row_sum ring us vs)
  IsHomogeneous-add ring d us vs h k =
      EachPlace-add (λ k. IsTermOfDegree ring.weights target d (record { at = k; coefficient = 0 }))
      (place_cmp ring.weights) ring.modulus us vs h k

  pub IsHomogeneous-negative : (ring : Ring) (d : ℤ) (us : List (Term Place)) → IsHomogeneous ring.weights target d us
      → IsHomogeneous ring.weights target d (negative ring.modulus us)
  IsHomogeneous-negative ring d us h =
      EachPlace-negative (λ k. IsTermOfDegree ring.weights target d (record { at = k; coefficient = 0 })) ring.modulus us h

  pub IsHomogeneous-multiple : (ring : Ring) (d : ℤ) (s : Term Monomial) (us : List (Term Place))
      → IsHomogeneous ring.weights target d us
      → IsHomogeneous ring.weights target (d +ℤ pos (monomial_degree ring.weights s.at)) (row_multiple ring s us)
  unfolding multiple
  IsHomogeneous-multiple ring d s us h = IsHomogeneous-normal ring _ _ (IsHomogeneous-term_products ring d s us h)

  module _ (ring : Ring) (rows : List Vector) (homogeneous : HasHomogeneousRows ring.weights target rows) where
    IsHomogeneous-combination_terms : (d : ℤ) (c : List (Term Place)) → IsHomogeneous ring.weights (degrees_of rows) d c
        → IsHomogeneous ring.weights target d
        (combination_terms place_product ring.modulus (λ k. k.monomial) (λ k. row_at rows k.position) c)
    unfolding combination_terms
    IsHomogeneous-combination_terms d [] h = tt
    IsHomogeneous-combination_terms d (t ∷ ts) h =
        AllByRecursion-append _ _ _
        (subst (λ e. IsHomogeneous ring.weights target e (map (term_product place_product ring.modulus (factor (λ k. k.monomial) t)) (row_at rows t.at.position))) (sym h.0.1)
        (IsHomogeneous-term_products ring _ (factor (λ k. k.monomial) t) (row_at rows t.at.position) (IsHomogeneous-row_at ring.weights target rows homogeneous t.at.position)))
        (IsHomogeneous-combination_terms d ts h.1)

    -- a combination of homogeneous rows with homogeneous coefficients
    pub IsHomogeneous-row_combination : (d : ℤ) (c : List (Term Place))
        → IsHomogeneous ring.weights (degrees_of rows) d c
        → IsHomogeneous ring.weights target d (row_combination ring rows c)
    unfolding combination
    IsHomogeneous-row_combination d c h = IsHomogeneous-normal ring d _ (IsHomogeneous-combination_terms d c h)
