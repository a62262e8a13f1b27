use Rattle.sf_algebra.proofs.Monomials.Places.{place_cmp-place_product, place_product-one, place_product-assoc}
use Rattle.sf_algebra.proofs.place.place_products.Goals as goal

pub returns : goal.returns
returns c = record { order = place_cmp-place_product; one = place_product-one; factors = place_product-assoc }
