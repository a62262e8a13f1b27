use Rattle.sf_blocks.proofs.SideBySide.Beside.{row_degrees-beside, IsMatrix-beside, entry-beside_first, entry-beside_last, part-beside_first, part-beside_last}
use Rattle.sf_blocks.proofs.SideBySide.BesideLaws.{beside-parts, beside-assoc, beside-no_columns, beside-zeros, negated-beside, matrix_sum-beside, stacked-beside}
use Rattle.sf_blocks.proofs.SideBySide.BesideProducts.{matrix_product-beside, row_combination-beside, matrix_product-beside_stacked}
use Rattle.sf_blocks.proofs.SideBySide.BesideTransposes.{transposed-beside, transposed-stacked}
use Rattle.sf_blocks.proofs.beside.matrices_side_by_side.Goals as goal

pub returns : goal.returns
returns c = record {
  matrices = λ a b h k l. (IsMatrix-beside a b h k l, row_degrees-beside a b h);
  first_entries = entry-beside_first;
  last_entries = entry-beside_last;
  first_columns = part-beside_first;
  last_columns = part-beside_last;
  parts = beside-parts;
  associative = beside-assoc;
  no_columns = beside-no_columns;
  zeros = beside-zeros;
  negatives = negated-beside;
  sums = matrix_sum-beside;
  stacks = stacked-beside;
  combinations = row_combination-beside;
  second_factor = matrix_product-beside;
  first_factor = matrix_product-beside_stacked;
  transposes = transposed-beside;
  transposed_stacks = transposed-stacked;
}
