use Rattle.sf_algebra.proofs.Monomials.OrderInWords.{monomial_cmp-Greater}
use Rattle.sf_algebra.proofs.order.monomial_order_in_words.Goals as goal

pub returns : goal.returns
returns c = record { greater = monomial_cmp-Greater }
