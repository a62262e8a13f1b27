use Rattle.sf_algebra.specs.Vectors.{place_cmp}
use Rattle.sf_algebra.proofs.Monomials.Orders.{place_cmp_linear}
use Rattle.sf_algebra.proofs.Multiplying.Keys.{place_keys}
use Rattle.sf_algebra.proofs.Terms.GroupLaws.{coefficient_at-add}
use Rattle.sf_algebra.proofs.Terms.Negatives.{IsCanonical-negative, add-negative}
use Rattle.sf_algebra.proofs.Terms.Normal.{IsCanonical-add}
use Rattle.sf_algebra.proofs.Terms.Sums.{add_comm, add_assoc, add-nil}
use Rattle.sf_algebra.proofs.vector.vectors_are_a_group.Goals as goal

pub returns : goal.returns
returns c = record {
  canonical_sums = λ weights p positive. IsCanonical-add (place_cmp weights) (place_cmp_linear weights) p positive;
  sum_coefficients = λ weights p us vs k. coefficient_at-add (place_keys weights) p k us vs;
  commutative_sums = λ weights p positive. add_comm (place_cmp weights) (place_cmp_linear weights) p positive;
  associative_sums = λ weights p positive. add_assoc (place_cmp weights) (place_cmp_linear weights) p positive;
  zero = λ weights p positive. add-nil (place_cmp weights) (place_cmp_linear weights) p positive;
  canonical_negatives = λ weights p. IsCanonical-negative (place_cmp weights) p;
  negatives = λ weights p positive. add-negative (place_keys weights) p positive;
}
