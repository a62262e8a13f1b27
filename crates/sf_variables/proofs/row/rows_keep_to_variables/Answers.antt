use Rattle.sf_variables.proofs.Keeping.Rows.{IsPolynomialInVariables-sum, IsPolynomialInVariables-product, IsRowInVariables-sum, IsRowInVariables-difference, IsRowInVariables-negative, IsRowInVariables-multiple, IsRowInVariables-combination, IsRowInVariables-part}
use Rattle.sf_variables.proofs.row.rows_keep_to_variables.Goals as goal

pub returns : goal.returns
returns c = record {
  polynomial_sum = IsPolynomialInVariables-sum;
  polynomial_product = IsPolynomialInVariables-product;
  sum = IsRowInVariables-sum;
  difference = IsRowInVariables-difference;
  negative = IsRowInVariables-negative;
  multiple = IsRowInVariables-multiple;
  combination = IsRowInVariables-combination;
  part = λ n from to v. IsRowInVariables-part n from to v.terms;
}
