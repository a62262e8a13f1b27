-- A monomial times a place.
use Rattle.std.proofs.Common.{◌≡◌, ap}
use Rattle.std.specs.Ordering.{nat_cmp, ordering_then}
use Rattle.sf_algebra.specs.Monomials.{Monomial, one, product}
use Rattle.sf_algebra.specs.Multiples.{place_product}
use Rattle.sf_algebra.specs.Rings.{Weights}
use Rattle.sf_algebra.specs.Vectors.{Place, place_cmp}
use Rattle.sf_algebra.proofs.Monomials.Products.{product-assoc, product-one_first, monomial_cmp-product}

-- the order is kept by products: two places compare as their products with a monomial do
pub place_cmp-place_product : (weights : Weights) (c : Monomial) (a b : Place)
    → place_cmp weights (place_product c a) (place_product c b) ≡ place_cmp weights a b
place_cmp-place_product weights c a b =
    ap (ordering_then (nat_cmp b.position a.position)) (monomial_cmp-product weights c a.monomial b.monomial)

pub place_product-one : (k : Place) → place_product one k ≡ k
place_product-one k = λ i. record { position = k.position; monomial = product-one_first k.monomial i }

pub place_product-assoc : (a b : Monomial) (k : Place)
    → place_product (product a b) k ≡ place_product a (place_product b k)
place_product-assoc a b k = λ i. record { position = k.position; monomial = product-assoc a b k.monomial i }
