use Rattle.sf_module.proofs.HomologyAnswers.{homology_answered}
use Rattle.sf_module.proofs.laws.homologies_are_answered.Goals as goal

pub returns : goal.returns
returns c = homology_answered
