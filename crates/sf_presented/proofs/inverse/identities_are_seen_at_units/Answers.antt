use Rattle.sf_presented.proofs.Inverses.{identity-units}
use Rattle.sf_presented.proofs.inverse.identities_are_seen_at_units.Goals as goal

pub returns : goal.returns
returns c = record { units = identity-units }
