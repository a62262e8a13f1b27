-- Polynomials: canonical lists of terms at monomials. (Cox, Little, O'Shea, "Ideals, Varieties, and Algorithms",
-- chapter 1, section 1.)
use Rattle.std.specs.Prelude.{List}
use Rattle.sf_algebra.specs.Monomials.{Monomial, product, monomial_cmp}
use Rattle.sf_algebra.specs.Multiples.{multiple, combination}
use Rattle.sf_algebra.specs.Rings.{Ring}
use Rattle.sf_algebra.specs.Sums.{add}
use Rattle.sf_algebra.specs.Terms.{Term}

-- the sum
abbrev pub polynomial_sum : Ring → List (Term Monomial) → List (Term Monomial) → List (Term Monomial)
polynomial_sum ring u v = add (monomial_cmp ring.weights) ring.modulus u v

-- the multiple by a term
abbrev pub polynomial_multiple : Ring → Term Monomial → List (Term Monomial) → List (Term Monomial)
polynomial_multiple ring s u = multiple (monomial_cmp ring.weights) product ring.modulus s u

-- the product: the sum of the products of each term of u with each term of v
abbrev pub polynomial_product : Ring → List (Term Monomial) → List (Term Monomial) → List (Term Monomial)
polynomial_product ring u v = combination (monomial_cmp ring.weights) product ring.modulus (λ a. a) (λ _. v) u
