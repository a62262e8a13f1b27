use Rattle.sf_algebra.proofs.Monomials.Numbers.{monomial_number-fits, nat_cmp-monomial_number, monomial_number-apart}
use Rattle.sf_algebra.proofs.number.monomial_numbers.Goals as goal

pub returns : goal.returns
returns c = record { fits = monomial_number-fits; order = nat_cmp-monomial_number; apart = monomial_number-apart }
