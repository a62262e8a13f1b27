use Rattle.sf_object.proofs.ComplexFailures.{answers_first_failure}
use Rattle.sf_object.proofs.laws.first_failures_are_answered.Goals as goal

pub returns : goal.returns
returns c = answers_first_failure
