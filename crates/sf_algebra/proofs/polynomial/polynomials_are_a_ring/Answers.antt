use Rattle.sf_algebra.specs.Monomials.{monomial_cmp}
use Rattle.sf_algebra.proofs.Monomials.Orders.{monomial_cmp_linear}
use Rattle.sf_algebra.proofs.Multiplying.Keys.{monomial_keys}
use Rattle.sf_algebra.proofs.Multiplying.Polynomials.{IsCanonical-polynomial_product, coefficient_at-polynomial_product, polynomial_product-comm, polynomial_product-assoc, polynomial_product-add, polynomial_product-one}
use Rattle.sf_algebra.proofs.Terms.GroupLaws.{coefficient_at-add}
use Rattle.sf_algebra.proofs.Terms.Negatives.{IsCanonical-negative, add-negative}
use Rattle.sf_algebra.proofs.Terms.Normal.{IsCanonical-add}
use Rattle.sf_algebra.proofs.Terms.Sums.{add_comm, add_assoc, add-nil}
use Rattle.sf_algebra.proofs.polynomial.polynomials_are_a_ring.Goals as goal

pub returns : goal.returns
returns c = record {
  canonical_sums = λ weights p positive. IsCanonical-add (monomial_cmp weights) (monomial_cmp_linear weights) p positive;
  sum_coefficients = λ weights p us vs k. coefficient_at-add (monomial_keys weights) p k us vs;
  commutative_sums = λ weights p positive. add_comm (monomial_cmp weights) (monomial_cmp_linear weights) p positive;
  associative_sums = λ weights p positive. add_assoc (monomial_cmp weights) (monomial_cmp_linear weights) p positive;
  zero = λ weights p positive. add-nil (monomial_cmp weights) (monomial_cmp_linear weights) p positive;
  canonical_negatives = λ weights p. IsCanonical-negative (monomial_cmp weights) p;
  negatives = λ weights p positive. add-negative (monomial_keys weights) p positive;
  canonical_products = IsCanonical-polynomial_product;
  product_coefficients = λ ring u v k. coefficient_at-polynomial_product ring k u v;
  commutative_products = polynomial_product-comm;
  associative_products = polynomial_product-assoc;
  distributive = polynomial_product-add;
  one = polynomial_product-one;
}
