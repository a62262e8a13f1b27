use Rattle.sf_blocks.proofs.MatrixSums.SumGroups.{IsMatrix-zero_matrix, row_degrees-zero_matrix, zero_entries}
use Rattle.sf_blocks.proofs.MatrixSums.SumProducts.{matrix_product-zero_first, matrix_product-zero_second}
use Rattle.sf_blocks.proofs.MatrixSums.SumTransposes.{transposed-zero}
use Rattle.sf_blocks.proofs.sums.zero_matrices.Goals as goal

pub returns : goal.returns
returns c = record {
  matrices = λ ring source target. (IsMatrix-zero_matrix ring source target, row_degrees-zero_matrix ring source target);
  entries = zero_entries;
  first_factor = matrix_product-zero_first;
  second_factor = matrix_product-zero_second;
  transposes = transposed-zero;
}
