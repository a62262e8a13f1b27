use Rattle.sf_algebra.proofs.Monomials.Products.{product-comm, product-assoc, product-one_first, monomial_cmp-product}
use Rattle.sf_algebra.proofs.product.monomial_products.Goals as goal

pub returns : goal.returns
returns c = record {
  commutative = product-comm;
  associative = product-assoc;
  one = product-one_first;
  order = monomial_cmp-product;
}
