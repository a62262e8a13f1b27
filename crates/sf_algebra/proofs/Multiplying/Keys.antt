-- What the laws of multiples take of that at which terms stand: a linear order, and an action of the monomials that
-- keeps it.
use Rattle.std.proofs.Common.{◌≡◌}
use Rattle.std.specs.declared.cmp.Ordering.{Ordering}
use Rattle.sf_algebra.specs.Monomials.{Monomial, one, product, monomial_cmp}
use Rattle.sf_algebra.specs.Multiples.{place_product}
use Rattle.sf_algebra.specs.Orders.{IsLinearOrder}
use Rattle.sf_algebra.specs.Rings.{Weights}
use Rattle.sf_algebra.specs.Vectors.{Place, place_cmp}
use Rattle.sf_algebra.proofs.Monomials.Orders.{monomial_cmp_linear, place_cmp_linear}
use Rattle.sf_algebra.proofs.Monomials.Places.{place_cmp-place_product, place_product-one, place_product-assoc}
use Rattle.sf_algebra.proofs.Monomials.Products.{product-assoc, product-one_first, monomial_cmp-product}

pub record Keys (K : Type 0) : Type 0 where
  pub cmp : K → K → Ordering
  pub order : IsLinearOrder cmp
  pub act : Monomial → K → K
  pub act_one : (k : K) → act one k ≡ k
  pub act_product : (a b : Monomial) (k : K) → act (product a b) k ≡ act a (act b k)
  pub act_cmp : (a : Monomial) (k l : K) → cmp (act a k) (act a l) ≡ cmp k l

-- those of polynomials
abbrev pub monomial_keys : Weights → Keys Monomial
monomial_keys weights = record {
  cmp = monomial_cmp weights;
  order = monomial_cmp_linear weights;
  act = product;
  act_one = product-one_first;
  act_product = product-assoc;
  act_cmp = monomial_cmp-product weights;
}

-- those of vectors
abbrev pub place_keys : Weights → Keys Place
place_keys weights = record {
  cmp = place_cmp weights;
  order = place_cmp_linear weights;
  act = place_product;
  act_one = place_product-one;
  act_product = place_product-assoc;
  act_cmp = place_cmp-place_product weights;
}
