-- Where column 0 has no cycles, and the first map of the complex is some matrix times a basis of the cycles Z(1), a vector
-- comes from a map of column 1 that goes nowhere but horizontally exactly where it is in the span of the transpose of that
-- matrix.
use Rattle.std.proofs.Common.{◌≡◌, ◌<◌, ℕ, List, [], ◌++◌, map, refl, sym, ◌∙◌, ap, subst, ℤ, neg_ℤ}
use Rattle.sf_algebra.specs.Matrices.{IsMatrix, Matrix, degrees_of, row_degrees}
use Rattle.sf_algebra.specs.MatrixOperations.{IsComposable, identity, matrix_product, row_combination, stacked, transposed}
use Rattle.sf_algebra.specs.Rings.{IsOverField, IsRing, Ring}
use Rattle.sf_algebra.specs.Vectors.{IsVector, Vector}
use Rattle.sf_algebra.proofs.GradedMatrices.Identities.{IsMatrix-identity}
use Rattle.sf_algebra.proofs.GradedMatrices.MatrixProducts.{IsMatrix-matrix_product, row_degrees-matrix_product}
use Rattle.sf_algebra.proofs.GradedMatrices.ProductLaws.{matrix_product-assoc, matrix_product-identity_first, matrix_product-stacked}
use Rattle.sf_algebra.proofs.GradedMatrices.Stacks.{IsMatrix-stacked, row_degrees-stacked}
use Rattle.sf_algebra.proofs.GradedMatrices.Transposes.{IsMatrix-transposed, row_degrees-transposed}
use Rattle.sf_algebra.proofs.Monomials.Weights.{field_ring}
use Rattle.sf_algebra.proofs.Vectors.HomogeneousVectors.{IsVector-row_combination}
use Rattle.sf_groebner.specs.MinimalGenerators.{matrix_of}
use Rattle.sf_groebner.specs.Spans.{InSpan, IsSyzygy, combined, combined_rows}
use Rattle.sf_blocks.specs.MatrixSums.{zero_matrix}
use Rattle.sf_blocks.specs.SideBySide.{AreTriangle, beside}
use Rattle.sf_blocks.proofs.MatrixSums.SumGroups.{IsMatrix-zero_matrix, row_degrees-zero_matrix}
use Rattle.sf_blocks.proofs.SideBySide.BesideProducts.{AreParallel-products, matrix_product-beside_stacked}
use Rattle.sf_blocks.proofs.TwoByTwo.ZeroParts.{IsZeroMatrix-product_second, IsZeroMatrix-zero_matrix, matrix_sum-zero_second}
use Rattle.sf_homotopy.proofs.Exactness.ZeroProducts.{zero_products}
use Rattle.sf_bidual.specs.CartanEilenberg.{CartanEilenberg, IsCartanEilenberg, IsCochainComplex, column_degrees, column_steps, cycle_degrees, cycle_steps, horizontal_step, widened}
use Rattle.sf_bidual.specs.FactorLaws.{IsFactorOfFirst}
use Rattle.sf_bidual.proofs.Columns.Laws.{boundary-rings, boundary-target, column-rings, column-target, cycle-rings, cycle_degrees-steps, outer-degrees, outer_horseshoe, resolves_cycles, resolves_terms}
use Rattle.sf_bidual.proofs.HighestColumns.Onto.{horizontal-unit}
use Rattle.sf_bidual.proofs.HorizontalMaps.Squares.{IsMatrix-horizontal, horizontal-product, inner-start, inner_unit, inner_unit-matrix, unit}
use Rattle.sf_bidual.proofs.HorizontalMaps.Widened.{widened-stacked}
use Rattle.sf_bidual.proofs.Horseshoes.Exactness.{AreTriangle-horseshoe, IsMatrix-side}
use Rattle.sf_bidual.proofs.Horseshoes.Lifts.{IsMatrix-lifts, matrix_product-lifts}
use Rattle.sf_bidual.proofs.LowerColumns.Cancelling.{cancel, equal_coefficients}
use Rattle.sf_bidual.proofs.LowerColumns.FreeCycles.{Q, Q-degrees, Q-exact, Q-matrix, Q-product}
use Rattle.sf_bidual.proofs.LowerColumns.Restrictions.{E, combined-transposed, cycle_part-degrees, cycle_part-matrix, product-cycle_part, restricted}
use Rattle.sf_bidual.proofs.Rows.TransposedColumns.{transposed_one_to_one}

module _ (ring : Ring) (maps : ℕ → Matrix) (x : CartanEilenberg) (prime : IsOverField ring)
    (complex : IsCochainComplex ring maps) (h : IsCartanEilenberg ring maps x)
    (no_boundaries : (x.boundaries 0 0).rows ≡ []) (no_homology : (x.homology 0 0).rows ≡ []) (g xs : List Vector)
    (factor : IsFactorOfFirst ring maps g xs) where
  positive : IsRing ring
  positive = field_ring prime

  p : 0 < ring.modulus
  p = positive.modulus

  abbrev G : Matrix
  G = matrix_of ring (row_degrees (maps 1)) g

  abbrev X : Matrix
  X = matrix_of ring (degrees_of g) xs

  X-degrees : row_degrees X ≡ row_degrees (maps 0)
  X-degrees = sym (row_degrees-matrix_product X G) ∙ ap row_degrees factor.product

  abbrev R : Matrix
  R = Q ring maps x prime complex h g factor.basis

  R-matrix : IsMatrix (Q ring maps x prime complex h g factor.basis)
  R-matrix = Q-matrix ring maps x prime complex h g factor.basis

  R-degrees : row_degrees (Q ring maps x prime complex h g factor.basis) ≡ cycle_degrees x 1 0
  R-degrees = Q-degrees ring maps x prime complex h g factor.basis ∙ cycle_degrees-steps ring maps x prime complex h 1 0

  -- the lifts of the generators of B(1)
  abbrev O : Matrix
  O = x.outer 0 0

  O-ring : O.ring ≡ ring
  O-ring = (h.outer_start 0).ring ∙ complex.rings 0

  O-matrix : IsMatrix (x.outer 0 0)
  O-matrix = IsMatrix-lifts (maps 0) (x.boundaries 1 0) (x.outer 0 0) (h.outer_start 0)

  abbrev inner : Matrix
  inner = inner_unit ring maps x prime complex h 0 0

  inner-composable : IsComposable inner R
  inner-composable = record { positive = p; rings = refl; degrees = R-degrees }

  -- on the boundaries, the coefficients in the basis are lifts times the factor
  on_boundaries : matrix_product inner R ≡ matrix_product O X
  on_boundaries =
      let meet : IsComposable O X = record {
        positive = subst (λ (q : Ring). 0 < q.modulus) (sym O-ring) p;
        rings = O-ring;
        degrees = X-degrees ∙ sym (h.outer_start 0).target;
      } in
      let first : matrix_product (matrix_product inner R) G ≡ x.boundaries 1 0 =
      matrix_product-assoc inner R G p refl
      ∙ ap (matrix_product inner) (Q-product ring maps x prime complex h g factor.basis)
      ∙ inner-start ring maps x prime complex h 0 in
      let last : matrix_product (matrix_product O X) G ≡ x.boundaries 1 0 =
      matrix_product-assoc O X G meet.positive O-ring
      ∙ ap (matrix_product O) factor.product
      ∙ matrix_product-lifts (maps 0) (x.boundaries 1 0) O (h.outer_start 0)
      (complex.rings 0 ∙ sym (boundary-rings ring maps x prime complex h 1 0))
      (sym (complex.meet 0).degrees ∙ sym (h.boundaries 1).presentation.generators_target) in
      cancel G positive factor.basis.free (matrix_product inner R) (matrix_product O X)
      (IsMatrix-matrix_product inner R inner-composable (inner_unit-matrix ring maps x prime complex h 0 0) R-matrix)
      (IsMatrix-matrix_product O X meet O-matrix factor.matrix) refl O-ring refl refl (first ∙ sym last)

  -- column 0 has the block of B(1) alone
  first_column : column_steps x 0 0 ≡ x.outer 0 0
  first_column = λ i. record {
    ring = (column-rings ring maps x prime complex h 0 0 ∙ sym O-ring) i;
    target = ((h.boundaries 0).presentation.generators_target ∙ sym (h.outer_start 0).target) i;
    rows = (no_boundaries i ++ (ap (λ (m : Matrix). m.rows) (h.inner_start 0) ∙ no_homology) i) ++ O.rows;
  }

  no_cycles : cycle_degrees x 0 0 ≡ []
  no_cycles = λ i. degrees_of (no_boundaries i) ++ degrees_of (no_homology i)

  -- the transposed augmentation of what the transpose of X gives
  augmented : (f : Vector)
      → row_combination ring (transposed (column_steps x 0 0)).rows (row_combination ring (transposed X).rows f.terms)
      ≡ row_combination ring (transposed (matrix_product inner R)).rows f.terms
  augmented f =
      ap (λ (m : Matrix). row_combination ring (transposed m).rows (row_combination ring (transposed X).rows f.terms))
      first_column
      ∙ sym (combined-transposed ring p O X O-ring refl (X-degrees ∙ sym (h.outer_start 0).target) O-matrix factor.matrix
      f.terms)
      ∙ ap (λ (m : Matrix). row_combination ring (transposed m).rows f.terms) (sym on_boundaries)

  -- the transposed augmentation, over the ring as it is known
  abbrev T : Matrix
  T = matrix_of ring (map neg_ℤ (row_degrees (column_steps x 0 0))) (transposed (column_steps x 0 0)).rows

  one_to_one : (v : Vector) → IsSyzygy T v → v.terms ≡ []
  one_to_one =
      let terms = resolves_terms ring maps x prime complex h 0 in
      let rings = column-rings ring maps x prime complex h 0 0 in
      subst (λ (q : Ring). (v : Vector) → IsSyzygy (record {
        ring = q;
        target = map neg_ℤ (row_degrees (column_steps x 0 0));
        rows = (transposed (column_steps x 0 0)).rows;
      }) v → v.terms ≡ []) rings
      (transposed_one_to_one ring prime.prime.above_one (row_degrees (maps 0)) (column_steps x 0) rings
      (h.boundaries 0).presentation.generators_target terms.onto terms.exact)

  T-degrees : row_degrees T ≡ map neg_ℤ (row_degrees (maps 0))
  T-degrees =
      row_degrees-transposed (column_steps x 0 0)
      ∙ ap (map neg_ℤ) (h.boundaries 0).presentation.generators_target

  pub spanned_by_factor : (u w m : Vector) → IsVector ring (map neg_ℤ (column_degrees x 1 0)) u
      → IsVector ring (map neg_ℤ (row_degrees (maps 0))) m
      → combined_rows ring (transposed (horizontal_step ring x 0 0)).rows u
      ≡ combined_rows ring (transposed (column_steps x 0 0)).rows m
      → row_combination ring (transposed (column_steps x 1 1)).rows u.terms
      ≡ row_combination ring (transposed (horizontal_step ring x 1 1)).rows w.terms
      → InSpan (transposed X) m
  spanned_by_factor u w m hu hm here next =
      let found = restricted ring maps x prime complex h g factor.basis u w hu next in
      let f : Vector = found.0 in
      let value : Vector = combined (transposed X) f in
      let units : horizontal_step ring x 0 0 ≡ matrix_product inner (E ring maps x prime complex h g factor.basis) =
      horizontal-unit ring prime x no_cycles
      ∙ sym (product-cycle_part ring maps x prime complex h 1 0 inner refl refl
      (inner_unit-matrix ring maps x prime complex h 0 0)) in
      let terms : row_combination ring (transposed (column_steps x 0 0)).rows value.terms
      ≡ row_combination ring (transposed (column_steps x 0 0)).rows m.terms =
      augmented f
      ∙ combined-transposed ring p inner R refl refl R-degrees (inner_unit-matrix ring maps x prime complex h 0 0) R-matrix
      f.terms
      ∙ ap (λ (v : Vector). row_combination ring (transposed inner).rows v.terms) found.2
      ∙ sym (combined-transposed ring p inner (E ring maps x prime complex h g factor.basis) refl refl
      (cycle_part-degrees ring maps x prime complex h 1 0) (inner_unit-matrix ring maps x prime complex h 0 0)
      (cycle_part-matrix ring maps x prime complex h 1 0) u.terms)
      ∙ ap (λ (n : Matrix). row_combination ring (transposed n).rows u.terms) (sym units)
      ∙ ap (λ (v : Vector). v.terms) here in
      let degree : f.degree ≡ m.degree =
      ap (λ (v : Vector). v.degree) found.2 ∙ ap (λ (v : Vector). v.degree) here in
      let inside : IsVector ring (row_degrees T) value =
      subst (λ ds. IsVector ring ds value) (ap (map neg_ℤ) X-degrees ∙ sym T-degrees)
      (IsVector-row_combination (transposed X) p (IsMatrix-transposed X factor.matrix) f
      (subst (λ ds. IsVector ring ds f) (sym (row_degrees-transposed X)) found.1)) in
      record {
        coefficients = f;
        homogeneous = subst (λ ds. IsVector ring ds f) (sym (row_degrees-transposed X)) found.1;
        value = equal_coefficients T positive one_to_one value m inside
            (subst (λ ds. IsVector ring ds m) (sym T-degrees) hm)
            (λ i. record { degree = degree i; terms = terms i });
      }

  -- the coefficients in the basis, and 0 on the last block of column 1
  abbrev last_degrees : List ℤ
  last_degrees = row_degrees (x.boundaries 2 0)

  abbrev Z : Matrix
  Z = zero_matrix ring last_degrees (degrees_of g)

  abbrev K : Matrix
  K = stacked R Z

  K-matrix : IsMatrix K
  K-matrix = IsMatrix-stacked R Z refl refl R-matrix (IsMatrix-zero_matrix ring last_degrees (degrees_of g))

  K-degrees : row_degrees K ≡ column_degrees x 1 0
  K-degrees =
      row_degrees-stacked R Z ∙ (λ i. R-degrees i ++ row_degrees-zero_matrix ring last_degrees (degrees_of g) i)

  K-here : matrix_product (horizontal_step ring x 0 0) K ≡ matrix_product inner R
  K-here =
      ap (λ m. matrix_product m K) (horizontal-unit ring prime x no_cycles)
      ∙ widened-stacked inner R Z last_degrees (sym (row_degrees-zero_matrix ring last_degrees (degrees_of g)))
      inner-composable refl refl (inner_unit-matrix ring maps x prime complex h 0 0) R-matrix

  -- its differential stands in the last block, so it is a horizontal image
  abbrev side : Matrix
  side = x.outer 1 1

  side-matrix : IsMatrix (x.outer 1 1)
  side-matrix =
      IsMatrix-side (cycle_steps x 1) (x.boundaries 2) (x.outer 1) (outer_horseshoe ring maps x prime complex h 1) 1

  together : AreTriangle (cycle_steps x 1 1) (x.outer 1 1) (x.boundaries 2 1)
  together =
      AreTriangle-horseshoe (cycle_steps x 1) (x.boundaries 2) (x.outer 1) (outer_horseshoe ring maps x prime complex h 1) 0

  side-ring : side.ring ≡ ring
  side-ring = sym together.rings ∙ cycle-rings ring maps x prime complex h 1 1

  abbrev V : Matrix
  V = matrix_of ring (degrees_of g) (matrix_product side R).rows

  V-same : matrix_product side R ≡ V
  V-same = λ i. record { ring = side-ring i; target = degrees_of g; rows = (matrix_product side R).rows }

  cycles-target : (cycle_steps x 1 1).target ≡ cycle_degrees x 1 0
  cycles-target =
      sym ((resolves_cycles ring maps x prime complex h 1).exact 0).meet.degrees
      ∙ cycle_degrees-steps ring maps x prime complex h 1 0

  side-composable : IsComposable side R
  side-composable = record {
    positive = subst (λ (q : Ring). 0 < q.modulus) (sym side-ring) p;
    rings = side-ring;
    degrees = R-degrees ∙ sym cycles-target ∙ together.targets;
  }

  V-matrix : IsMatrix V
  V-matrix = subst IsMatrix V-same (IsMatrix-matrix_product side R side-composable side-matrix R-matrix)

  V-degrees : row_degrees V ≡ row_degrees (x.boundaries 2 1)
  V-degrees = row_degrees-matrix_product side R ∙ outer-degrees ring maps x prime complex h 1 1

  K-next : matrix_product (column_steps x 1 1) K ≡ stacked (zero_matrix ring (cycle_degrees x 1 1) (degrees_of g)) V
  K-next =
      let cycles = cycle_steps x 1 1 in
      let cycles_ring = cycle-rings ring maps x prime complex h 1 1 in
      let block = x.boundaries 2 1 in
      let below : row_degrees Z ≡ block.target =
      row_degrees-zero_matrix ring last_degrees (degrees_of g) ∙ sym (boundary-target ring maps x prime complex h 2 0) in
      let behind : IsComposable block Z = record {
        positive = subst (λ (q : Ring). 0 < q.modulus) (sym (boundary-rings ring maps x prime complex h 2 1)) p;
        rings = boundary-rings ring maps x prime complex h 2 1;
        degrees = below;
      } in
      let above : matrix_product (widened cycles block.target) K
      ≡ zero_matrix ring (cycle_degrees x 1 1) (degrees_of g) =
      widened-stacked cycles R Z block.target (sym below)
      (record {
        positive = subst (λ (q : Ring). 0 < q.modulus) (sym cycles_ring) p;
        rings = cycles_ring;
        degrees = R-degrees ∙ sym cycles-target;
      }) refl refl ((resolves_cycles ring maps x prime complex h 1).exact 1).out_matrix R-matrix
      ∙ zero_products R cycles prime.prime.above_one (Q-exact ring maps x prime complex h g factor.basis)
      ∙ (λ i. zero_matrix (cycles_ring i)
      ((row_degrees-matrix_product cycles R ∙ cycle_degrees-steps ring maps x prime complex h 1 1) i) (degrees_of g)) in
      let last : matrix_product (beside side block) K ≡ V =
      matrix_product-beside_stacked side block R Z together.lower side-composable behind refl side-matrix
      ∙ matrix_sum-zero_second (matrix_product side R) (matrix_product block Z)
      (AreParallel-products side block R Z together.lower side-composable behind refl) side-composable.positive
      (IsMatrix-matrix_product side R side-composable side-matrix R-matrix)
      (IsZeroMatrix-product_second block Z behind.positive
      (IsZeroMatrix-zero_matrix ring last_degrees (degrees_of g)))
      ∙ V-same in
      matrix_product-stacked (widened cycles block.target) (beside side block) K together.rings
      ∙ (λ i. stacked (above i) (last i))

  -- that image
  abbrev homology_zeros : Matrix
  homology_zeros = zero_matrix ring (row_degrees (x.homology 2 1)) (degrees_of g)

  abbrev other_zeros : Matrix
  other_zeros = zero_matrix ring (row_degrees (x.boundaries 3 1)) (degrees_of g)

  abbrev upper : Matrix
  upper = stacked V homology_zeros

  abbrev W : Matrix
  W = stacked upper other_zeros

  upper-matrix : IsMatrix upper
  upper-matrix =
      IsMatrix-stacked V homology_zeros refl refl V-matrix
      (IsMatrix-zero_matrix ring (row_degrees (x.homology 2 1)) (degrees_of g))

  W-matrix : IsMatrix W
  W-matrix =
      IsMatrix-stacked upper other_zeros refl refl upper-matrix
      (IsMatrix-zero_matrix ring (row_degrees (x.boundaries 3 1)) (degrees_of g))

  upper-degrees : row_degrees upper ≡ cycle_degrees x 2 1
  upper-degrees =
      row_degrees-stacked V homology_zeros
      ∙ (λ i. V-degrees i ++ row_degrees-zero_matrix ring (row_degrees (x.homology 2 1)) (degrees_of g) i)

  W-degrees : row_degrees W ≡ column_degrees x 2 1
  W-degrees =
      row_degrees-stacked upper other_zeros
      ∙ (λ i. upper-degrees i ++ row_degrees-zero_matrix ring (row_degrees (x.boundaries 3 1)) (degrees_of g) i)

  W-value : matrix_product (horizontal_step ring x 1 1) W ≡ stacked (zero_matrix ring (cycle_degrees x 1 1) (degrees_of g)) V
  W-value =
      let one = identity ring (row_degrees (x.boundaries 2 1)) in
      let value : matrix_product (unit ring maps x prime complex h 1 1) W ≡ V =
      widened-stacked (inner_unit ring maps x prime complex h 1 1) upper other_zeros (row_degrees (x.boundaries 3 1))
      (sym (row_degrees-zero_matrix ring (row_degrees (x.boundaries 3 1)) (degrees_of g)))
      (record { positive = p; rings = refl; degrees = upper-degrees }) refl refl
      (inner_unit-matrix ring maps x prime complex h 1 1) upper-matrix
      ∙ widened-stacked one V homology_zeros (row_degrees (x.homology 2 1))
      (sym (row_degrees-zero_matrix ring (row_degrees (x.homology 2 1)) (degrees_of g)))
      (record { positive = p; rings = refl; degrees = V-degrees }) refl refl
      (IsMatrix-identity ring prime.prime.above_one (row_degrees (x.boundaries 2 1))) V-matrix
      ∙ ap (λ ds. matrix_product (identity ring ds) V) (sym V-degrees)
      ∙ matrix_product-identity_first V p V-matrix in
      horizontal-product ring maps x prime complex h 1 1 W refl
      ∙ ap (stacked (zero_matrix ring (cycle_degrees x 1 1) (degrees_of g))) value

  pub factor_spans : (m : Vector) → InSpan (transposed X) m
      → (u : Vector) × (w : Vector) × IsVector ring (map neg_ℤ (column_degrees x 1 0)) u
      × IsVector ring (map neg_ℤ (column_degrees x 2 1)) w × (w.degree ≡ m.degree)
      × (combined_rows ring (transposed (horizontal_step ring x 0 0)).rows u
      ≡ combined_rows ring (transposed (column_steps x 0 0)).rows m)
      × (row_combination ring (transposed (column_steps x 1 1)).rows u.terms
      ≡ row_combination ring (transposed (horizontal_step ring x 1 1)).rows w.terms)
  factor_spans m s =
      let f : Vector = s.coefficients in
      let vector : IsVector ring (map neg_ℤ (degrees_of g)) f =
      subst (λ ds. IsVector ring ds f) (row_degrees-transposed X) s.homogeneous in
      let over : (k : Matrix) → k.ring ≡ ring → k.target ≡ degrees_of g → IsMatrix k
      → IsVector ring (map neg_ℤ (row_degrees k)) (combined_rows ring (transposed k).rows f) =
      λ k k_ring target matrix.
      subst (λ (q : Ring). IsVector q (map neg_ℤ (row_degrees k)) (combined_rows q (transposed k).rows f)) k_ring
      (IsVector-row_combination (transposed k) (subst (λ (q : Ring). 0 < q.modulus) (sym k_ring) p)
      (IsMatrix-transposed k matrix) f
      (subst (λ (q : Ring). IsVector q (row_degrees (transposed k)) f) (sym k_ring)
      (subst (λ ds. IsVector ring ds f) (ap (map neg_ℤ) (sym target) ∙ sym (row_degrees-transposed k)) vector))) in
      let here : row_combination ring (transposed (horizontal_step ring x 0 0)).rows
      (row_combination ring (transposed K).rows f.terms)
      ≡ row_combination ring (transposed (column_steps x 0 0)).rows m.terms =
      sym (combined-transposed ring p (horizontal_step ring x 0 0) K refl refl K-degrees
      (IsMatrix-horizontal ring maps x prime complex h 0 0) K-matrix f.terms)
      ∙ ap (λ (n : Matrix). row_combination ring (transposed n).rows f.terms) K-here
      ∙ sym (augmented f)
      ∙ ap (λ (v : Vector). row_combination ring (transposed (column_steps x 0 0)).rows v.terms) s.value in
      let next : row_combination ring (transposed (column_steps x 1 1)).rows
      (row_combination ring (transposed K).rows f.terms)
      ≡ row_combination ring (transposed (horizontal_step ring x 1 1)).rows
      (row_combination ring (transposed W).rows f.terms) =
      sym (combined-transposed ring p (column_steps x 1 1) K (column-rings ring maps x prime complex h 1 1) refl
      (K-degrees ∙ sym (column-target ring maps x prime complex h 1 0))
      ((resolves_terms ring maps x prime complex h 1).exact 1).out_matrix K-matrix f.terms)
      ∙ ap (λ (n : Matrix). row_combination ring (transposed n).rows f.terms) (K-next ∙ sym W-value)
      ∙ combined-transposed ring p (horizontal_step ring x 1 1) W refl refl W-degrees
      (IsMatrix-horizontal ring maps x prime complex h 1 1) W-matrix f.terms in (
        combined_rows ring (transposed K).rows f,
        combined_rows ring (transposed W).rows f,
        subst (λ ds. IsVector ring (map neg_ℤ ds) (combined_rows ring (transposed K).rows f)) K-degrees
            (over K refl refl K-matrix),
        subst (λ ds. IsVector ring (map neg_ℤ ds) (combined_rows ring (transposed W).rows f)) W-degrees
            (over W refl refl W-matrix),
        ap (λ (v : Vector). v.degree) s.value,
        λ i. record { degree = ap (λ (v : Vector). v.degree) s.value i; terms = here i },
        next,
      )
