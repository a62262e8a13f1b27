-- The transpose of a homotopy is one of the transposed maps.
use Rattle.std.proofs.Common.{◌≡◌, ◌<◌, sym, ◌∙◌, ap, subst, map, neg_ℤ}
use Rattle.sf_algebra.specs.Matrices.{Matrix, row_degrees}
use Rattle.sf_algebra.specs.MatrixOperations.{identity, matrix_product, transposed}
use Rattle.sf_algebra.specs.Rings.{Ring}
use Rattle.sf_algebra.proofs.GradedMatrices.MatrixProducts.{IsMatrix-matrix_product}
use Rattle.sf_algebra.proofs.GradedMatrices.TransposedProducts.{IsComposable-transposed, transposed-identity, transposed-matrix_product}
use Rattle.sf_algebra.proofs.GradedMatrices.Transposes.{IsMatrix-transposed, row_degrees-transposed}
use Rattle.sf_blocks.specs.MatrixSums.{AreParallel, matrix_sum}
use Rattle.sf_blocks.proofs.MatrixSums.SumGroups.{AreParallel-sym, matrix_sum-comm}
use Rattle.sf_blocks.proofs.MatrixSums.SumTransposes.{AreParallel-transposed, transposed-sum}
use Rattle.sf_homotopy.specs.Homotopies.{IsHomotopy}

pub transposed_homotopy : (out back forth into : Matrix) → IsHomotopy out back forth into
    → IsHomotopy (transposed into) (transposed forth) (transposed back) (transposed out)
transposed_homotopy out back forth into h =
    let there = matrix_product out back in
    let here = matrix_product forth into in
    let there_matrix = IsMatrix-matrix_product out back h.out_back h.out_matrix h.back_matrix in
    let here_matrix = IsMatrix-matrix_product forth into h.forth_into h.forth_matrix h.into_matrix in
    let positive : 0 < here.ring.modulus = h.forth_into.positive in
    let rings : out.ring ≡ into.ring = h.parallel.rings ∙ h.forth_into.rings in
    let target : row_degrees out ≡ into.target =
    sym (ap (λ (m : Matrix). m.target) h.sum) ∙ h.parallel.targets in
    let parallel : AreParallel (transposed here) (transposed there) =
    AreParallel-transposed here there positive (AreParallel-sym there here h.parallel) here_matrix there_matrix in
    let first : transposed here ≡ matrix_product (transposed into) (transposed forth) =
    transposed-matrix_product forth into h.forth_into h.forth_matrix h.into_matrix in
    let second : transposed there ≡ matrix_product (transposed back) (transposed out) =
    transposed-matrix_product out back h.out_back h.out_matrix h.back_matrix in
    record {
      above_one = subst (λ (q : Ring). 1 < q.modulus) rings h.above_one;
      out_matrix = IsMatrix-transposed into h.into_matrix;
      back_matrix = IsMatrix-transposed forth h.forth_matrix;
      forth_matrix = IsMatrix-transposed back h.back_matrix;
      into_matrix = IsMatrix-transposed out h.out_matrix;
      out_back = IsComposable-transposed forth into h.forth_into;
      forth_into = IsComposable-transposed out back h.out_back;
      parallel = subst (λ m. AreParallel m (matrix_product (transposed back) (transposed out))) first
          (subst (AreParallel (transposed here)) second parallel);
      sum = (λ i. matrix_sum (sym first i) (sym second i))
          ∙ sym (transposed-sum here there positive (AreParallel-sym there here h.parallel) here_matrix there_matrix)
          ∙ ap transposed (matrix_sum-comm here there (AreParallel-sym there here h.parallel) positive)
          ∙ ap transposed h.sum
          ∙ transposed-identity out.ring (row_degrees out) h.above_one
          ∙ (λ i. identity (rings i) (map neg_ℤ (target i)))
          ∙ ap (identity into.ring) (sym (row_degrees-transposed into));
    }
