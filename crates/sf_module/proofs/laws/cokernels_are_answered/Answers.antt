use Rattle.sf_module.proofs.ModuleAnswers.{cokernel_answered}
use Rattle.sf_module.proofs.laws.cokernels_are_answered.Goals as goal

pub returns : goal.returns
returns c = cokernel_answered
