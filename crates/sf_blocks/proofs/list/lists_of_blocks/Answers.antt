use Rattle.sf_blocks.proofs.Lists.ListBlocks.{IsFrom-side_by_side, target-side_by_side, IsTo-all_stacked, row_degrees-all_stacked, transposed-side_by_side, transposed-all_stacked}
use Rattle.sf_blocks.proofs.Lists.ListProducts.{matrix_product-lists, matrix_product-side_by_side, matrix_product-all_stacked}
use Rattle.sf_blocks.proofs.list.lists_of_blocks.Goals as goal

pub returns : goal.returns
returns c = record {
  side_by_side = λ ring source ms h. (IsFrom-side_by_side ring source ms h, target-side_by_side ring source ms);
  stacks = λ ring target ms h. ((IsTo-all_stacked ring target ms h).matrix, row_degrees-all_stacked ring target ms);
  products = λ ring source target ms ns positive. matrix_product-lists ring source target positive ms ns;
  second_factor = matrix_product-side_by_side;
  first_factor = matrix_product-all_stacked;
  transposes = transposed-side_by_side;
  transposed_stacks = transposed-all_stacked;
}
