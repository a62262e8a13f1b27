use Rattle.sf_algebra.proofs.GradedMatrices.NegatedMatrices.{IsMatrix-negated, row_degrees-negated, entry-negated, negated-negated, transposed-negated}
use Rattle.sf_algebra.proofs.GradedMatrices.ProductLaws.{matrix_product-negated_first, matrix_product-negated}
use Rattle.sf_algebra.proofs.matrices.matrix_negatives.Goals as goal

pub returns : goal.returns
returns c = record {
  matrices = λ m h. (IsMatrix-negated m h, row_degrees-negated m);
  entries = entry-negated;
  twice = negated-negated;
  first_factor = matrix_product-negated_first;
  second_factor = matrix_product-negated;
  transposes = transposed-negated;
}
