use Rattle.sf_resolve.proofs.StepAnswers.{answers_resolution}
use Rattle.sf_resolve.proofs.laws.resolutions_are_answered.Goals as goal

pub returns : goal.returns
returns c = answers_resolution
