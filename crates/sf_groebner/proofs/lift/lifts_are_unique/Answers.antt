use Rattle.sf_groebner.proofs.Uniqueness.Lifts.{unique_lift, reduced-coordinates}
use Rattle.sf_groebner.proofs.lift.lifts_are_unique.Goals as goal

pub returns : goal.returns
returns c = record { unique = unique_lift; first_blocks = reduced-coordinates }
