-- Where column 0 of a Cartan-Eilenberg resolution has no block but B(1) at place 0, the transpose of the horizontal map there
-- is onto: it has the identity of that block.
use Rattle.std.proofs.Common.{◌≡◌, List, [], ◌++◌, map, refl, sym, ap, ◌∙◌, subst, ℤ, neg_ℤ}
use Rattle.sf_algebra.specs.Matrices.{IsMatrix, Matrix, row_degrees}
use Rattle.sf_algebra.specs.MatrixOperations.{IsComposable, identity, matrix_product, stacked, transposed}
use Rattle.sf_algebra.specs.Rings.{IsOverField, IsRing, Ring}
use Rattle.sf_algebra.specs.Vectors.{IsVector, Vector}
use Rattle.sf_algebra.proofs.GradedMatrices.Identities.{IsMatrix-identity, row_degrees-identity}
use Rattle.sf_algebra.proofs.GradedMatrices.ProductLaws.{matrix_product-identity}
use Rattle.sf_algebra.proofs.GradedMatrices.Stacks.{IsMatrix-stacked, row_degrees-stacked}
use Rattle.sf_algebra.proofs.GradedMatrices.TransposedProducts.{transposed-identity, transposed-matrix_product}
use Rattle.sf_algebra.proofs.GradedMatrices.Transposes.{IsMatrix-transposed, row_degrees-transposed}
use Rattle.sf_algebra.proofs.Monomials.Weights.{field_ring}
use Rattle.sf_algebra.proofs.Vectors.HomogeneousVectors.{IsVector-row_combination, row_combination-identity}
use Rattle.sf_groebner.specs.Spans.{combined, combined_rows}
use Rattle.sf_presented.proofs.Composites.{combined-matrix_product}
use Rattle.sf_blocks.specs.MatrixSums.{zero_matrix}
use Rattle.sf_blocks.proofs.MatrixSums.SumGroups.{IsMatrix-zero_matrix, row_degrees-zero_matrix}
use Rattle.sf_bidual.specs.CartanEilenberg.{CartanEilenberg, column_degrees, cycle_degrees, horizontal_step, widened}
use Rattle.sf_bidual.proofs.HorizontalMaps.Widened.{IsMatrix-widened, widened-stacked}

module _ (ring : Ring) (prime : IsOverField ring) (ds hs bs : List ℤ) where
  positive : IsRing ring
  positive = field_ring prime

  abbrev one : Matrix
  one = identity ring ds

  one_matrix : IsMatrix one
  one_matrix = IsMatrix-identity ring prime.prime.above_one ds

  -- (1, 0, 0), and the stack of 1, 0 and 0
  abbrev inner : Matrix
  inner = widened one hs

  abbrev unit : Matrix
  unit = widened inner bs

  abbrev under : Matrix
  under = stacked one (zero_matrix ring hs ds)

  abbrev all_under : Matrix
  all_under = stacked under (zero_matrix ring bs ds)

  under_matrix : IsMatrix under
  under_matrix =
      IsMatrix-stacked one (zero_matrix ring hs ds) refl refl one_matrix (IsMatrix-zero_matrix ring hs ds)

  all_under_matrix : IsMatrix all_under
  all_under_matrix =
      IsMatrix-stacked under (zero_matrix ring bs ds) refl refl under_matrix (IsMatrix-zero_matrix ring bs ds)

  under_degrees : row_degrees under ≡ ds ++ hs
  under_degrees =
      row_degrees-stacked one (zero_matrix ring hs ds)
      ∙ (λ i. row_degrees-identity ring ds i ++ row_degrees-zero_matrix ring hs ds i)

  all_under_degrees : row_degrees all_under ≡ (ds ++ hs) ++ bs
  all_under_degrees =
      row_degrees-stacked under (zero_matrix ring bs ds) ∙ (λ i. under_degrees i ++ row_degrees-zero_matrix ring bs ds i)

  unit_matrix : IsMatrix unit
  unit_matrix = IsMatrix-widened inner bs (IsMatrix-widened one hs one_matrix)

  product-one : matrix_product unit all_under ≡ one
  product-one =
      widened-stacked inner under (zero_matrix ring bs ds) bs (sym (row_degrees-zero_matrix ring bs ds))
      (record { positive = positive.modulus; rings = refl; degrees = under_degrees }) refl refl
      (IsMatrix-widened one hs one_matrix) under_matrix
      ∙ widened-stacked one one (zero_matrix ring hs ds) hs (sym (row_degrees-zero_matrix ring hs ds))
      (record { positive = positive.modulus; rings = refl; degrees = row_degrees-identity ring ds }) refl refl one_matrix
      one_matrix
      ∙ matrix_product-identity one positive.modulus one_matrix

  -- each vector is a value of the transpose
  pub unit-onto : (v : Vector) → IsVector ring (map neg_ℤ ds) v
      → (u : Vector) × IsVector ring (map neg_ℤ ((ds ++ hs) ++ bs)) u
      × (v ≡ combined_rows ring (transposed (widened (widened (identity ring ds) hs) bs)).rows u)
  unit-onto v h =
      let E : Matrix = transposed all_under in
      let meet : IsComposable unit all_under =
      record { positive = positive.modulus; rings = refl; degrees = all_under_degrees } in
      let whole : matrix_product E (transposed unit) ≡ identity ring (map neg_ℤ ds) =
      sym (transposed-matrix_product unit all_under meet unit_matrix all_under_matrix)
      ∙ ap transposed product-one
      ∙ transposed-identity ring ds prime.prime.above_one in
      let u : Vector = combined E v in
      let vector : IsVector ring (map neg_ℤ (row_degrees all_under)) u =
      IsVector-row_combination E positive.modulus (IsMatrix-transposed all_under all_under_matrix) v
      (subst (λ es. IsVector ring es v) (sym (row_degrees-transposed all_under)) h) in
      let value : v ≡ combined (transposed unit) u =
      (λ i. record {
        degree = v.degree;
        terms = sym (row_combination-identity ring positive.modulus (map neg_ℤ ds) v h) i;
      })
      ∙ ap (λ (m : Matrix). combined m v) (sym whole)
      ∙ combined-matrix_product E (transposed unit) positive refl v in
      (u, subst (λ es. IsVector ring (map neg_ℤ es) u) all_under_degrees vector, value)

module _ (ring : Ring) (prime : IsOverField ring) (x : CartanEilenberg) (none : cycle_degrees x 0 0 ≡ []) where
  abbrev block : List ℤ
  block = row_degrees (x.boundaries 1 0)

  abbrev units : Matrix
  units = widened (widened (identity ring block) (row_degrees (x.homology 1 0))) (row_degrees (x.boundaries 2 0))

  pub horizontal-unit : horizontal_step ring x 0 0 ≡ units
  horizontal-unit = λ i. stacked (zero_matrix ring (none i) (column_degrees x 1 0)) units

  pub horizontal-onto : (v : Vector) → IsVector ring (map neg_ℤ (column_degrees x 0 0)) v
      → (u : Vector) × IsVector ring (map neg_ℤ (column_degrees x 1 0)) u
      × (v ≡ combined_rows ring (transposed (horizontal_step ring x 0 0)).rows u)
  horizontal-onto v h =
      let found =
      unit-onto ring prime block (row_degrees (x.homology 1 0)) (row_degrees (x.boundaries 2 0)) v
      (subst (λ es. IsVector ring (map neg_ℤ (es ++ block)) v) none h) in
      (found.0, found.1, found.2 ∙ ap (λ (m : Matrix). combined_rows ring (transposed m).rows found.0) (sym horizontal-unit))
