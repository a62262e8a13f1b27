use Rattle.sf_groebner.proofs.Constructions.LiftExistence.{lift_exists}
use Rattle.sf_groebner.proofs.existence.each_vector_of_a_span_has_a_lift.Goals as goal

pub returns : goal.returns
returns c = record { exists = lift_exists }
