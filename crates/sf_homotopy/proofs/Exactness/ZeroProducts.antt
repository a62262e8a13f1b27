-- Exact maps give 0, one after the other; and what is in the span of the first is sent to 0 where they do.
use Rattle.std.proofs.Common.{◌≡◌, ◌<◌, [], sym, ◌∙◌, ap, subst, arith}
use Rattle.std.specs.List.{AllByRecursion}
use Rattle.sf_algebra.specs.Matrices.{Matrix, row_degrees, IsMatrix}
use Rattle.sf_algebra.specs.MatrixOperations.{row_combination, matrix_product, IsComposable}
use Rattle.sf_algebra.specs.Rings.{Ring}
use Rattle.sf_algebra.specs.Vectors.{Vector, IsVector}
use Rattle.sf_algebra.proofs.Basics.Lists.{AllByRecursion-weaken}
use Rattle.sf_algebra.proofs.GradedMatrices.MatrixRows.{row_at-each}
use Rattle.sf_algebra.proofs.Vectors.HomogeneousVectors.{IsVector-row_combination}
use Rattle.sf_algebra.proofs.Vectors.Rows.{row_at-matrix_product, row_combination-matrix_product, row_combination-nil}
use Rattle.sf_blocks.specs.MatrixSums.{IsZeroMatrix}
use Rattle.sf_blocks.proofs.MatrixSums.SumGroups.{same_zero}
use Rattle.sf_blocks.proofs.MatrixSums.SumProducts.{row_combination-zeros}
use Rattle.sf_groebner.specs.Spans.{InSpan, IsSyzygy}
use Rattle.sf_blocks.proofs.TwoByTwo.ZeroParts.{row_at-zero}
use Rattle.sf_homotopy.specs.Exactness.{IsExactPair}
use Rattle.sf_homotopy.proofs.Exactness.Spans.{span_rows}

pub zero_products : (out into : Matrix) → 1 < out.ring.modulus → IsExactPair out into
    → IsZeroMatrix (matrix_product into out)
zero_products out into above h =
    let above_there : 1 < into.ring.modulus = subst (λ (q : Ring). 1 < q.modulus) (sym h.meet.rings) above in
    let positive : 0 < out.ring.modulus = omega arith in
    let zeros : AllByRecursion (λ (v : Vector). row_combination out.ring out.rows v.terms ≡ []) into.rows =
    AllByRecursion-weaken _ _ (λ v k. ((h.exact v).1 k).zero) into.rows (span_rows into above_there h.into_matrix) in
    same_zero (matrix_product into out)
    (λ i.
    row_at-matrix_product out.ring positive into out i h.meet.rings
    ∙ row_at-each (λ ts. row_combination out.ring out.rows ts ≡ [])
    (row_combination-nil out.ring positive out.rows) into.rows zeros i)

pub syzygies_of_span : (out into : Matrix) → IsComposable into out → IsMatrix into
    → IsZeroMatrix (matrix_product into out) → (v : Vector) → InSpan into v → IsSyzygy out v
syzygies_of_span out into meet is_matrix none v h =
    let positive : 0 < out.ring.modulus = subst (λ (q : Ring). 0 < q.modulus) meet.rings meet.positive in
    let c = h.coefficients in
    let vector : IsVector into.ring into.target v = subst (IsVector into.ring into.target) h.value
    (IsVector-row_combination into meet.positive is_matrix c h.homogeneous) in
    record {
      coefficients = subst (λ q. IsVector q (row_degrees out) v) meet.rings
          (subst (λ ds. IsVector into.ring ds v) (sym meet.degrees) vector);
      zero = ap (λ (w : Vector). row_combination out.ring out.rows w.terms) (sym h.value)
          ∙ ap (λ q. row_combination out.ring out.rows (row_combination q into.rows c.terms)) meet.rings
          ∙ sym (row_combination-matrix_product out.ring positive into out c.terms meet.rings)
          ∙ row_combination-zeros out.ring positive (matrix_product into out).rows
          (row_at-zero (matrix_product into out) none) c.terms;
    }
