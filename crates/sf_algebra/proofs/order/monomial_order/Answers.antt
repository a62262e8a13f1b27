use Rattle.sf_algebra.proofs.Monomials.Orders.{monomial_cmp_linear}
use Rattle.sf_algebra.proofs.order.monomial_order.Goals as goal

pub returns : goal.returns
returns c = monomial_cmp_linear
