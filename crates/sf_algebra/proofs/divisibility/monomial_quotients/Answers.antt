use Rattle.sf_algebra.proofs.Monomials.Divisors.{product-quotient, quotient-only, product-cancel}
use Rattle.sf_algebra.proofs.divisibility.monomial_quotients.Goals as goal

pub returns : goal.returns
returns c = record { multiplies_back = product-quotient; only = quotient-only; cancels = product-cancel }
