use Rattle.sf_resolve.proofs.StepDegrees.{steps_sound}
use Rattle.sf_resolve.proofs.laws.steps_are_sound.Goals as goal

pub returns : goal.returns
returns c = steps_sound
