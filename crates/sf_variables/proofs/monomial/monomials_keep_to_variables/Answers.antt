use Rattle.sf_variables.proofs.Keeping.Monomials.{IsInVariables-variable, IsInVariables-more, IsInVariables-product, IsInVariables-divisor, IsInVariables-quotient, IsInVariables-lcm}
use Rattle.sf_variables.proofs.monomial.monomials_keep_to_variables.Goals as goal

pub returns : goal.returns
returns c = record {
  variables = IsInVariables-variable;
  more = IsInVariables-more;
  product = IsInVariables-product;
  divisor = IsInVariables-divisor;
  quotient = IsInVariables-quotient;
  multiple = IsInVariables-lcm;
}
