use Rattle.sf_blocks.proofs.MatrixSums.SumGroups.{IsMatrix-matrix_sum, row_degrees-matrix_sum, entry-matrix_sum, matrix_sum-comm, matrix_sum-assoc, matrix_sum-zero, matrix_sum-negated, matrix_difference-sum, negated-matrix_sum}
use Rattle.sf_blocks.proofs.MatrixSums.SumProducts.{matrix_product-sum_first, matrix_product-sum_second}
use Rattle.sf_blocks.proofs.MatrixSums.SumTransposes.{transposed-sum, part-sum}
use Rattle.sf_blocks.proofs.sums.matrix_sums.Goals as goal

pub returns : goal.returns
returns c = record {
  matrices = λ a b positive h k l. (IsMatrix-matrix_sum a b h positive k l, row_degrees-matrix_sum a b h);
  entries = λ a b positive h i j. entry-matrix_sum a b h positive i j;
  commutative = λ a b positive h. matrix_sum-comm a b h positive;
  associative = matrix_sum-assoc;
  zero = matrix_sum-zero;
  negative = matrix_sum-negated;
  difference = matrix_difference-sum;
  negatives = negated-matrix_sum;
  parts = λ r0 r1 c0 c1 a b positive h k l. part-sum a b positive h k l r0 r1 c0 c1;
  first_factor = matrix_product-sum_first;
  second_factor = matrix_product-sum_second;
  transposes = transposed-sum;
}
