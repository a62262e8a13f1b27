use Rattle.std.proofs.Common.{refl, ap, ◌∙◌}
use Rattle.sf_algebra.specs.MatrixOperations.{row_at}
use Rattle.sf_algebra.specs.Vectors.{entry}
use Rattle.sf_algebra.proofs.GradedMatrices.Identities.{IsMatrix-identity, row_degrees-identity}
use Rattle.sf_algebra.proofs.GradedMatrices.MatrixProducts.{IsMatrix-matrix_product, row_degrees-matrix_product}
use Rattle.sf_algebra.proofs.GradedMatrices.ProductLaws.{matrix_product-identity_first, matrix_product-identity, matrix_product-assoc}
use Rattle.sf_algebra.proofs.Vectors.EntryProducts.{entry-row_combination_products}
use Rattle.sf_algebra.proofs.Vectors.Rows.{row_at-matrix_product}
use Rattle.sf_algebra.proofs.matrices.matrix_products.Goals as goal

pub returns : goal.returns
returns c = record {
  matrices = λ a b composable h k. (IsMatrix-matrix_product a b composable h k, row_degrees-matrix_product a b);
  entries = λ a b positive i j.
      ap (entry j) (row_at-matrix_product a.ring positive a b i refl)
      ∙ entry-row_combination_products a.ring positive b.rows (row_at a.rows i) j;
  identities = λ ring above degrees. (IsMatrix-identity ring above degrees, row_degrees-identity ring degrees);
  first_identity = matrix_product-identity_first;
  second_identity = matrix_product-identity;
  associative = matrix_product-assoc;
}
