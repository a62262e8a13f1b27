use Rattle.sf_algebra.specs.Vectors.{place_cmp}
use Rattle.sf_algebra.proofs.Monomials.Orders.{place_cmp_linear}
use Rattle.sf_algebra.proofs.Terms.Coefficients.{coefficient_at-normal, same_from_coefficients}
use Rattle.sf_algebra.proofs.Terms.Normal.{IsCanonical-normal}
use Rattle.sf_algebra.proofs.Terms.Sums.{normal-IsPermutation, normal-append}
use Rattle.sf_algebra.proofs.sum.vector_sums.Goals as goal

pub returns : goal.returns
returns c = record {
  canonical = λ weights p positive. IsCanonical-normal (place_cmp weights) (place_cmp_linear weights) p positive;
  coefficients = λ weights p ts k. coefficient_at-normal (place_cmp weights) (place_cmp_linear weights) p k ts;
  unique = λ weights p positive. same_from_coefficients (place_cmp weights) (place_cmp_linear weights) p positive;
  any_order = λ weights p positive. normal-IsPermutation (place_cmp weights) (place_cmp_linear weights) p positive;
  parts = λ weights p positive. normal-append (place_cmp weights) (place_cmp_linear weights) p positive;
}
