use Rattle.sf_blocks.proofs.TwoByTwo.BlockProducts.{matrix_product-blocks}
use Rattle.sf_blocks.proofs.TwoByTwo.Blocks.{IsMatrix-blocks, row_degrees-blocks, part-blocks_first, part-blocks_last, matrix_sum-blocks, negated-blocks, transposed-blocks, matrix_sum-stacked}
use Rattle.sf_blocks.proofs.TwoByTwo.Triangles.{IsMatrix-triangle, row_degrees-triangle, matrix_product-triangles, IsZeroMatrix-triangles}
use Rattle.sf_blocks.proofs.TwoByTwo.ZeroParts.{IsZeroMatrix-beside, IsZeroMatrix-stacked}
use Rattle.sf_blocks.proofs.block.two_by_two_blocks.Goals as goal

pub returns : goal.returns
returns c = record {
  matrices = λ a b c d h ma mb mc md. (IsMatrix-blocks a b c d h ma mb mc md, row_degrees-blocks a b c d h);
  rows = λ a b c d h ma mb mc md. (part-blocks_first a b c d h ma mb mc md, part-blocks_last a b c d h ma mb mc md);
  products = matrix_product-blocks;
  sums = matrix_sum-blocks;
  negatives = negated-blocks;
  transposes = transposed-blocks;
  zeros_beside = IsZeroMatrix-beside;
  zero_stacks = IsZeroMatrix-stacked;
  stacked_sums = matrix_sum-stacked;
  triangles = λ a l b h ma ml mb. (IsMatrix-triangle a l b h ma ml mb, row_degrees-triangle a l b h);
  triangle_products = matrix_product-triangles;
  zero_triangles = IsZeroMatrix-triangles;
}
