use Rattle.sf_algebra.proofs.GradedMatrices.Parts.{IsMatrix-part, row_degrees-part, entry-part, part-whole, part-part, transposed-part}
use Rattle.sf_algebra.proofs.GradedMatrices.ProductParts.{part-matrix_product}
use Rattle.sf_algebra.proofs.matrices.matrix_parts.Goals as goal

pub returns : goal.returns
returns c = record {
  matrices = λ r0 r1 c0 c1 m h. (IsMatrix-part r0 r1 c0 c1 m h, row_degrees-part r0 r1 c0 c1 m);
  entries = entry-part;
  whole = part-whole;
  parts = part-part;
  products = part-matrix_product;
  transposes = transposed-part;
}
