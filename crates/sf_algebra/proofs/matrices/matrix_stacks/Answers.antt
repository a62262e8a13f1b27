use Rattle.sf_algebra.proofs.GradedMatrices.Parts.{part-stacked_first, part-stacked_second, stacked-parts}
use Rattle.sf_algebra.proofs.GradedMatrices.ProductLaws.{matrix_product-stacked}
use Rattle.sf_algebra.proofs.GradedMatrices.Stacks.{IsMatrix-stacked, negated-stacked, row_degrees-stacked, stacked-assoc}
use Rattle.sf_algebra.proofs.matrices.matrix_stacks.Goals as goal

pub returns : goal.returns
returns c = record {
  matrices = λ a b rings targets h k. (IsMatrix-stacked a b rings targets h k, row_degrees-stacked a b);
  first_rows = part-stacked_first;
  last_rows = part-stacked_second;
  parts = stacked-parts;
  associative = stacked-assoc;
  products = matrix_product-stacked;
  negatives = negated-stacked;
}
