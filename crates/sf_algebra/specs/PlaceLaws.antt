-- What holds of the product of a monomial and a place of a free module. (Cox, Little, O'Shea, "Using Algebraic Geometry",
-- chapter 5, section 2.)
use Rattle.std.specs.Prelude.{◌≡◌}
use Rattle.sf_algebra.specs.Monomials.{Monomial, one, product}
use Rattle.sf_algebra.specs.Multiples.{place_product}
use Rattle.sf_algebra.specs.Rings.{Weights}
use Rattle.sf_algebra.specs.Vectors.{Place, place_cmp}

-- the order is kept by products: two places compare as their products with a monomial do
abbrev pub PlacesKeptByProducts : Type 0
PlacesKeptByProducts =
    (weights : Weights) (c : Monomial) (a b : Place) → place_cmp weights (place_product c a)
    (place_product c b) ≡ place_cmp weights a b

-- the monomial 1 leaves each place as it is
abbrev pub OneActsAsIdentity : Type 0
OneActsAsIdentity = (k : Place) → place_product one k ≡ k

-- a product acts as its factors do, one after the other
abbrev pub ProductsActByFactors : Type 0
ProductsActByFactors =
    (a b : Monomial) (k : Place) → place_product (product a b) k ≡ place_product a (place_product b k)
