use Rattle.sf_algebra.proofs.Multiplying.Keys.{monomial_keys}
use Rattle.sf_algebra.proofs.Multiplying.MultipleLaws.{multiple-one, multiple-multiple, multiple-add, multiple-sum_mod}
use Rattle.sf_algebra.proofs.Multiplying.Multiples.{IsCanonical-multiple, coefficient_at-multiple}
use Rattle.sf_algebra.proofs.Multiplying.PrimeMultiples.{multiple-map}
use Rattle.sf_algebra.proofs.Terms.Negatives.{multiple-negative_one}
use Rattle.sf_algebra.proofs.multiple.multiples_of_polynomials_act.Goals as goal

pub returns : goal.returns
returns c = record {
  canonical = λ weights. IsCanonical-multiple (monomial_keys weights);
  product_coefficients = λ weights p s us k. coefficient_at-multiple (monomial_keys weights) p k s us;
  one = λ weights. multiple-one (monomial_keys weights);
  products = λ weights. multiple-multiple (monomial_keys weights);
  sums = λ weights. multiple-add (monomial_keys weights);
  coefficients = λ weights. multiple-sum_mod (monomial_keys weights);
  negatives = λ weights. multiple-negative_one (monomial_keys weights);
  terms = λ weights p prime s. multiple-map (monomial_keys weights) p s prime;
}
