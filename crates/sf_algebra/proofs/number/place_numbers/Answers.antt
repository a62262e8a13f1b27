use Rattle.sf_algebra.proofs.Monomials.Numbers.{place_number-fits, nat_cmp-place_number, place_number-apart}
use Rattle.sf_algebra.proofs.number.place_numbers.Goals as goal

pub returns : goal.returns
returns c = record { fits = place_number-fits; order = nat_cmp-place_number; apart = place_number-apart }
