-- Where maps are exact, a matrix that `out` after it sends to 0 comes by `into`.
use Rattle.std.proofs.Common.{◌≡◌, ◌<◌, [], refl, sym, ◌∙◌, subst}
use Rattle.std.specs.List.{AllByRecursion}
use Rattle.sf_algebra.specs.Matrices.{Matrix, row_degrees, IsMatrix}
use Rattle.sf_algebra.specs.MatrixOperations.{row_combination, matrix_product, IsComposable}
use Rattle.sf_algebra.specs.Rings.{Ring}
use Rattle.sf_algebra.specs.Vectors.{Vector, IsVector}
use Rattle.sf_algebra.proofs.Basics.Lists.{AllByRecursion-weaken}
use Rattle.sf_algebra.proofs.GradedMatrices.Stacks.{AllByRecursion-map}
use Rattle.sf_algebra.proofs.Vectors.Rows.{row_at-matrix_product}
use Rattle.sf_blocks.specs.MatrixSums.{IsZeroMatrix}
use Rattle.sf_blocks.proofs.TwoByTwo.ZeroParts.{row_at-zero}
use Rattle.sf_groebner.specs.MinimalGenerators.{matrix_of}
use Rattle.sf_groebner.specs.Spans.{InSpan}
use Rattle.sf_groebner.proofs.Basics.Items.{AllByRecursion-both}
use Rattle.sf_homotopy.specs.Exactness.{IsExactPair}
use Rattle.sf_homotopy.proofs.Exactness.Spans.{coefficients_of, each_row}

-- the rows of a product are in the span of its second factor
pub span_products : (e m : Matrix) → IsComposable e m → IsMatrix e
    → AllByRecursion (InSpan m) (matrix_product e m).rows
span_products e m h is_matrix =
    AllByRecursion-map (InSpan m)
    (λ (v : Vector). record { degree = v.degree; terms = row_combination e.ring m.rows v.terms }) e.rows
    (AllByRecursion-weaken (IsVector e.ring e.target)
    (λ v. InSpan m (record { degree = v.degree; terms = row_combination e.ring m.rows v.terms }))
    (λ v k. record {
      coefficients = v;
      homogeneous = subst (λ q. IsVector q (row_degrees m) v) h.rings
          (subst (λ ds. IsVector e.ring ds v) (sym h.degrees) k);
      value = λ i. record { degree = v.degree; terms = row_combination (sym h.rings i) m.rows v.terms };
    }) e.rows is_matrix)

module _ (out into : Matrix) (exact : IsExactPair out into) (v : Matrix) (is_matrix : IsMatrix v)
    (composable : IsComposable v out) (none : IsZeroMatrix (matrix_product v out)) where
  rows_of_zeros : AllByRecursion (λ (w : Vector). row_combination out.ring out.rows w.terms ≡ []) v.rows
  rows_of_zeros =
      let positive : 0 < out.ring.modulus =
      subst (λ (q : Ring). 0 < q.modulus) composable.rings composable.positive in
      each_row (λ ts. row_combination out.ring out.rows ts ≡ []) v.rows
      (λ i.
      sym (row_at-matrix_product out.ring positive v out i composable.rings)
      ∙ row_at-zero (matrix_product v out) none i)

  pub rows_in_span : AllByRecursion (InSpan into) v.rows
  rows_in_span =
      let vectors : AllByRecursion (IsVector out.ring (row_degrees out)) v.rows =
      subst (λ q. AllByRecursion (IsVector q (row_degrees out)) v.rows) composable.rings
      (subst (λ ds. AllByRecursion (IsVector v.ring ds) v.rows) (sym composable.degrees) is_matrix) in
      AllByRecursion-both (IsVector out.ring (row_degrees out)) (λ w. row_combination out.ring out.rows w.terms ≡ [])
      (InSpan into) (λ w h k. (exact.exact w).0 (record { coefficients = h; zero = k })) v.rows vectors rows_of_zeros

  -- the coefficients of the rows
  abbrev pub lift : Matrix
  lift = matrix_of into.ring (row_degrees into) (coefficients_of into v.rows rows_in_span).0

  pub lift-matrix : IsMatrix lift
  lift-matrix = (coefficients_of into v.rows rows_in_span).1

  pub lift-into : IsComposable lift into
  lift-into = record { positive = exact.meet.positive; rings = refl; degrees = refl }

  pub lift-value : matrix_product lift into ≡ v
  lift-value = λ i. record {
    ring = (exact.meet.rings ∙ sym composable.rings) i;
    target = (sym exact.meet.degrees ∙ composable.degrees) i;
    rows = (coefficients_of into v.rows rows_in_span).2 i;
  }
