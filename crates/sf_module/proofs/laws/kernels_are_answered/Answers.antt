use Rattle.sf_module.proofs.ModuleAnswers.{kernel_answered}
use Rattle.sf_module.proofs.laws.kernels_are_answered.Goals as goal

pub returns : goal.returns
returns c = kernel_answered
