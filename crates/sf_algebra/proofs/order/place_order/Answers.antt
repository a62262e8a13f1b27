use Rattle.sf_algebra.proofs.Monomials.Orders.{place_cmp_linear}
use Rattle.sf_algebra.proofs.order.place_order.Goals as goal

pub returns : goal.returns
returns c = place_cmp_linear
