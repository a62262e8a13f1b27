use Rattle.sf_module.proofs.ModuleAnswers.{image_answered}
use Rattle.sf_module.proofs.laws.images_are_answered.Goals as goal

pub returns : goal.returns
returns c = image_answered
