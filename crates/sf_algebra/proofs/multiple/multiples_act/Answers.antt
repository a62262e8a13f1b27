use Rattle.sf_algebra.proofs.Multiplying.Keys.{place_keys}
use Rattle.sf_algebra.proofs.Multiplying.MultipleLaws.{multiple-one, multiple-multiple, multiple-add, multiple-sum_mod}
use Rattle.sf_algebra.proofs.Multiplying.Multiples.{IsCanonical-multiple, coefficient_at-multiple}
use Rattle.sf_algebra.proofs.Multiplying.PrimeMultiples.{multiple-map}
use Rattle.sf_algebra.proofs.Terms.Negatives.{multiple-negative_one}
use Rattle.sf_algebra.proofs.multiple.multiples_act.Goals as goal

pub returns : goal.returns
returns c = record {
  canonical = λ weights. IsCanonical-multiple (place_keys weights);
  product_coefficients = λ weights p s us k. coefficient_at-multiple (place_keys weights) p k s us;
  one = λ weights. multiple-one (place_keys weights);
  products = λ weights. multiple-multiple (place_keys weights);
  sums = λ weights. multiple-add (place_keys weights);
  coefficients = λ weights. multiple-sum_mod (place_keys weights);
  negatives = λ weights. multiple-negative_one (place_keys weights);
  terms = λ weights p prime s. multiple-map (place_keys weights) p s prime;
}
