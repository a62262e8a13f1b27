use Rattle.std.proofs.Common.{sym}
use Rattle.sf_algebra.proofs.Monomials.Products.{monomial_degree-product}
use Rattle.sf_algebra.proofs.Monomials.Weights.{degree_by_ones, exponent_sum-at_most, monomial_degree-variable}
use Rattle.sf_algebra.proofs.degree.monomial_degrees.Goals as goal

pub returns : goal.returns
returns c = record {
  variables = monomial_degree-variable;
  products = monomial_degree-product;
  ones = λ a. sym (degree_by_ones a);
  positive = exponent_sum-at_most;
}
