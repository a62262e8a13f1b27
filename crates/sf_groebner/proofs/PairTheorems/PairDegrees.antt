-- Degrees of pairs of homogeneous rows: a pair that reduces to zero does so by steps of its own degree.
use Rattle.std.proofs.Common.{◌≡◌, ℕ, ◌<◌, List, [], ◌∷◌, length, sym, ◌∙◌, ap, subst, arith, ℤ, pos, ◌+ℤ◌}
use Rattle.std.specs.List.{AllByRecursion}
use Rattle.std.proofs.lemmas.Int.{ints}
use Rattle.std.proofs.lemmas.List.{length-map}
use Rattle.sf_algebra.specs.DegreeParts.{degree_part, has_degree}
use Rattle.sf_algebra.specs.Matrices.{Matrix, IsMatrix, row_degrees}
use Rattle.sf_algebra.specs.MatrixOperations.{row_at}
use Rattle.sf_algebra.specs.Monomials.{Monomial, monomial_degree}
use Rattle.sf_algebra.specs.Multiples.{place_product}
use Rattle.sf_algebra.specs.Rings.{Weights, IsRing}
use Rattle.sf_algebra.specs.Terms.{Term}
use Rattle.sf_algebra.specs.Vectors.{Place, generator_degree, IsHomogeneous, IsTermOfDegree, place_degree}
use Rattle.sf_algebra.proofs.Basics.Filters.{AllByRecursion-filter_keeps}
use Rattle.sf_algebra.proofs.Monomials.Products.{monomial_degree-product}
use Rattle.sf_algebra.proofs.Vectors.DegreeParts.{IsHomogeneous-degree_part, row_combination-degree_part}
use Rattle.sf_algebra.proofs.Vectors.Degrees.{IsHomogeneous-row_at, IsHomogeneous-row_combination}
use Rattle.sf_algebra.proofs.Vectors.HomogeneousVectors.{HasHomogeneousRows-from_IsMatrix}
use Rattle.sf_groebner.specs.Criterion.{HasMultipleBelow, HaveLeadsAtOnePosition, IsMonicRow, ReducesToZero, lead_multiple, lcm_place, lead_at, lead_place, pair_place, s_coefficients}
use Rattle.sf_groebner.specs.ReducedBases.{IsMonic}
use Rattle.sf_groebner.proofs.Basics.Items.{AllByRecursion-both}
use Rattle.sf_groebner.proofs.PairTheorems.Kernels.{IsZero, settled-reduces}
use Rattle.sf_groebner.proofs.PairTheorems.LeadMultiples.{IsSettled}
use Rattle.sf_groebner.proofs.PairTheorems.MonicRows.{IsMonicRow-row_at}
use Rattle.sf_groebner.proofs.PairTheorems.Pairs.{lead_multiple-pair_place, lcm_place-comm}

-- a place for a row whose degree is d
abbrev pub HasPlaceOfDegree : Weights → List ℤ → ℤ → Place → Type 0
HasPlaceOfDegree weights degrees d k = (k.position < length degrees) × (d ≡ place_degree weights degrees k)

-- a product with a monomial has the sum of the degrees
pub place_degree-product : (weights : Weights) (degrees : List ℤ) (a : Monomial) (k : Place)
    → place_degree weights degrees (place_product a k)
    ≡ place_degree weights degrees k +ℤ pos (monomial_degree weights a)
place_degree-product weights degrees a k = omega (arith, ints, monomial_degree-product weights a k.monomial)

-- the lead of a homogeneous list has its degree
place_degree-lead : (weights : Weights) (target : List ℤ) (d : ℤ) (ts : List (Term Place)) → IsMonic ts
    → IsHomogeneous weights target d ts → d ≡ place_degree weights target (lead_place ts)
place_degree-lead weights target d [] monic h = absurd monic
place_degree-lead weights target d (t ∷ ts) monic h = h.0.1

module _ (m : Matrix) (is_matrix : IsMatrix m) (monic : AllByRecursion (IsMonicRow m.ring) m.rows) where
  -- an image has the degree of the coefficient's place
  pub place_degree-lead_multiple : (k : Place) → k.position < length m.rows
      → place_degree m.ring.weights m.target (lead_multiple (lead_at m.rows) k)
      ≡ place_degree m.ring.weights (row_degrees m) k
  place_degree-lead_multiple k within =
      place_degree-product m.ring.weights m.target k.monomial (lead_at m.rows k.position)
      ∙ ap (λ d. d +ℤ pos (monomial_degree m.ring.weights k.monomial))
      (sym
      (place_degree-lead m.ring.weights m.target (generator_degree (row_degrees m) k.position) (row_at m.rows k.position) (IsMonicRow-row_at m.ring m.rows monic k.position within).1
      (IsHomogeneous-row_at m.ring.weights m.target m.rows (HasHomogeneousRows-from_IsMatrix m is_matrix) k.position)))

  -- the degree of a pair of rows: that of the least common multiple of their leads
  pub place_degree-pair_place : (i j : ℕ) → i < length m.rows
      → place_degree m.ring.weights (row_degrees m) (pair_place (lead_at m.rows) i j)
      ≡ place_degree m.ring.weights m.target (lcm_place (lead_at m.rows) i j)
  place_degree-pair_place i j within =
      sym (place_degree-lead_multiple (pair_place (lead_at m.rows) i j) within)
      ∙ ap (place_degree m.ring.weights m.target) (lead_multiple-pair_place (lead_at m.rows) i j)

  module _ (positive : IsRing m.ring) (i j : ℕ) (i_in : i < length m.rows) (j_in : j < length m.rows)
      (positions : HaveLeadsAtOnePosition m.rows i j) (f : ℤ)
      (of_pair : f ≡ place_degree m.ring.weights (row_degrees m) (pair_place (lead_at m.rows) i j)) where
    within : (k : ℕ) → k < length m.rows → k < length (row_degrees m)
    within k h = simp length-map h

    pub IsHomogeneous-s_coefficients : IsHomogeneous m.ring.weights (row_degrees m) f
        (s_coefficients m.ring.modulus (lead_at m.rows) i j)
    IsHomogeneous-s_coefficients = (
      (within i i_in, of_pair),
      (
        (
          within j j_in,
          of_pair
              ∙ place_degree-pair_place i j i_in
              ∙ ap (place_degree m.ring.weights m.target) (lcm_place-comm (lead_at m.rows) i j positions)
              ∙ sym (place_degree-pair_place j i j_in),
        ),
        tt,
      ),
    )

    -- steps of the degree of the pair
    pub ReducesToZero-degree : ReducesToZero m.ring m.rows i j → (r : ReducesToZero m.ring m.rows i j) × IsHomogeneous m.ring.weights (row_degrees m) f r.steps
    ReducesToZero-degree h =
        let rows_homogeneous = HasHomogeneousRows-from_IsMatrix m is_matrix in
        let pair_homogeneous = IsHomogeneous-row_combination m.target m.ring m.rows rows_homogeneous f (s_coefficients m.ring.modulus (lead_at m.rows) i j) IsHomogeneous-s_coefficients in (
          record {
            steps = degree_part m.ring.weights (row_degrees m) f h.steps;
            below = AllByRecursion-filter_keeps _ (has_degree m.ring.weights (row_degrees m) f) h.steps h.below;
            value = row_combination-degree_part m.target f m.ring m.rows rows_homogeneous positive.modulus h.steps (subst (IsHomogeneous m.ring.weights m.target f) (sym h.value) pair_homogeneous) ∙ h.value;
          },
          IsHomogeneous-degree_part m.ring.weights (row_degrees m) f h.steps,
        )

    -- so times a monomial it is settled in the degree of the product
    pub settled_in_degree : ReducesToZero m.ring m.rows i j → (a : Monomial)
        → IsSettled m.ring (λ u. HasPlaceOfDegree m.ring.weights (row_degrees m)
        (f +ℤ pos (monomial_degree m.ring.weights a)) (place_product a u)) (lead_at m.rows)
        (IsZero m.ring positive m.rows)
        (pair_place (lead_at m.rows) i j) (pair_place (lead_at m.rows) j i)
    settled_in_degree h a =
        let r = ReducesToZero-degree h in
        settled-reduces m.ring positive m.rows
        (λ u. HasPlaceOfDegree m.ring.weights (row_degrees m) (f +ℤ pos (monomial_degree m.ring.weights a)) (place_product a u)) (lead_at m.rows) i j positions r.0.steps
        (AllByRecursion-both _ _ _
        (λ (u : Term Place) (below : HasMultipleBelow m.ring.weights m.rows (lcm_place (lead_at m.rows) i j) u) (degree : IsTermOfDegree m.ring.weights (row_degrees m) f u).
        ((degree.0, ap (λ g. g +ℤ pos (monomial_degree m.ring.weights a)) degree.1 ∙ sym (place_degree-product m.ring.weights (row_degrees m) a u.at)), below.1))
        r.0.steps r.0.below r.1)
        r.0.value
