use Rattle.sf_groebner.proofs.Basics.LiftPropositions.{IsLift-prop}
use Rattle.sf_presented.proofs.kept.lifts_have_one_proof.Goals as goal

pub returns : goal.returns
returns c = record { lift = IsLift-prop }
