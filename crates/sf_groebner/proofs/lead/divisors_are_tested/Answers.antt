use Rattle.sf_groebner.proofs.Basics.PlaceDivisors.{Decides-divides, Decides-place_divides}
use Rattle.sf_groebner.proofs.lead.divisors_are_tested.Goals as goal

pub returns : goal.returns
returns c = record { monomials = Decides-divides; places = Decides-place_divides }
