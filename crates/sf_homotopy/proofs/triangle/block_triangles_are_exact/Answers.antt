use Rattle.sf_homotopy.proofs.Triangles.BlockTriangles.{exact_block_triangles}
use Rattle.sf_homotopy.proofs.Triangles.ExactTriangles.{exact_triangles}
use Rattle.sf_homotopy.proofs.triangle.block_triangles_are_exact.Goals as goal

pub returns : goal.returns
returns c = record {
  two = exact_triangles;
  all = λ ring rs ss positive. exact_block_triangles ring positive rs ss;
}
