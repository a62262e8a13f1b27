use Rattle.sf_algebra.proofs.GradedMatrices.TransposedProducts.{transposed-identity, transposed-matrix_product}
use Rattle.sf_algebra.proofs.GradedMatrices.Transposes.{IsMatrix-transposed, row_degrees-transposed, entry-transposed, transposed-transposed}
use Rattle.sf_algebra.proofs.matrices.matrix_transposes.Goals as goal

pub returns : goal.returns
returns c = record {
  matrices = λ m h. (IsMatrix-transposed m h, row_degrees-transposed m);
  entries = entry-transposed;
  twice = transposed-transposed;
  identities = λ ring above degrees. transposed-identity ring degrees above;
  products = transposed-matrix_product;
}
