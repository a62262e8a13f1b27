-- What holds of products of polynomials: with sums and negatives they make a commutative ring. (Any textbook of algebra.)
use Rattle.std.specs.Prelude.{◌≡◌, if◌then◌else◌, ℕ, ◌<◌, List, [], ◌∷◌}
use Rattle.std.specs.Ordering.{is_eq}
use Rattle.sf_algebra.specs.Monomials.{Monomial, one, product, monomial_cmp}
use Rattle.sf_algebra.specs.Polynomials.{polynomial_product, polynomial_sum}
use Rattle.sf_algebra.specs.Residues.{product_mod}
use Rattle.sf_algebra.specs.Rings.{Ring}
use Rattle.sf_algebra.specs.Sums.{total, coefficient_at}
use Rattle.sf_algebra.specs.Terms.{Term, IsCanonical}

-- a product is canonical
abbrev pub HasCanonicalProducts : Type 0
HasCanonicalProducts =
    (ring : Ring) → 0 < ring.modulus → (u v : List (Term Monomial)) → IsCanonical
    (monomial_cmp ring.weights) ring.modulus (polynomial_product ring u v)

-- the product of the coefficients of two terms whose product stands at k, and 0 for other terms
abbrev pub product_part : Ring → Monomial → Term Monomial → Term Monomial → ℕ
product_part ring k t s =
    if is_eq (monomial_cmp ring.weights (product t.at s.at) k) then product_mod ring.modulus t.coefficient s.coefficient else 0

-- the coefficient of u v at k is the sum, over the terms t of u and s of v whose product stands at k, of the products
-- of their coefficients
abbrev pub SumsProductsOfCoefficients : Type 0
SumsProductsOfCoefficients =
    (ring : Ring) (u v : List (Term Monomial)) (k : Monomial)
    → coefficient_at (monomial_cmp ring.weights) ring.modulus k (polynomial_product ring u v)
    ≡ total ring.modulus (λ t. total ring.modulus (product_part ring k t) v) u

-- the factors may be exchanged
abbrev pub HasCommutativeProducts : Type 0
HasCommutativeProducts =
    (ring : Ring) → 0 < ring.modulus → (u v : List (Term Monomial)) → polynomial_product ring u v ≡ polynomial_product ring v u

-- three factors may be grouped either way
abbrev pub HasAssociativeProducts : Type 0
HasAssociativeProducts =
    (ring : Ring) → 0 < ring.modulus → (u v w : List (Term Monomial)) → polynomial_product ring
    (polynomial_product ring u v) w ≡ polynomial_product ring u (polynomial_product ring v w)

-- a product with a sum is the sum of the products
abbrev pub DistributesOverSums : Type 0
DistributesOverSums =
    (ring : Ring) → 0 < ring.modulus → (u v w : List (Term Monomial))
    → polynomial_product ring (polynomial_sum ring u v) w
    ≡ polynomial_sum ring (polynomial_product ring u w) (polynomial_product ring v w)

-- the constant 1 is the one
abbrev pub HasOne : Type 0
HasOne =
    (ring : Ring) → 0 < ring.modulus → (u : List (Term Monomial)) → IsCanonical
    (monomial_cmp ring.weights) ring.modulus u → polynomial_product ring
    (record { at = one; coefficient = 1 } ∷ []) u ≡ u
