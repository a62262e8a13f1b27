use Rattle.std.proofs.Common.{refl, sym}
use Rattle.sf_algebra.specs.MatrixOperations.{row_at}
use Rattle.sf_algebra.proofs.Multiplying.Combinations.{coefficient_at-combination}
use Rattle.sf_algebra.proofs.Multiplying.Keys.{place_keys}
use Rattle.sf_algebra.proofs.Vectors.EntryProducts.{entry-row_combination_products}
use Rattle.sf_algebra.proofs.Vectors.HomogeneousVectors.{HasCanonicalRows-from_IsMatrix}
use Rattle.sf_algebra.proofs.Vectors.RowParts.{row_combination-negated}
use Rattle.sf_algebra.proofs.Vectors.Rows.{IsCanonical-row_combination, row_combination-one, row_combination-add, row_combination-add_rows, row_combination-multiple, row_combination-negative, row_combination-matrix_product}
use Rattle.sf_algebra.proofs.Vectors.StackedRows.{row_combination-stacked}
use Rattle.sf_algebra.proofs.Vectors.UnitRows.{row_combination-unit, row_combination-unit_rows}
use Rattle.sf_algebra.proofs.combination.matrices_act.Goals as goal

pub returns : goal.returns
returns c = record {
  canonical = IsCanonical-row_combination;
  product_coefficients = λ ring rows c k. coefficient_at-combination (place_keys ring.weights) ring.modulus (λ l. l.monomial) (λ l. row_at rows l.position) k c;
  entries = entry-row_combination_products;
  one_coefficient = row_combination-one;
  coefficients = row_combination-add;
  rows = row_combination-add_rows;
  multiples = row_combination-multiple;
  negatives = row_combination-negative;
  negated_rows = λ m positive is_matrix. row_combination-negated m positive (HasCanonicalRows-from_IsMatrix m is_matrix);
  products = λ m n positive d. sym (row_combination-matrix_product m.ring positive m n d refl);
  unit_coefficients = λ ring positive rows d. row_combination-unit ring positive rows;
  unit_rows = row_combination-unit_rows;
  stacked_rows = row_combination-stacked;
}
