use Rattle.sf_derived.proofs.DerivedAnswers.{answers_tor}
use Rattle.sf_derived.proofs.laws.tors_are_answered.Goals as goal

pub returns : goal.returns
returns c = answers_tor
