use Rattle.sf_object.proofs.MapFaults.{answers_first_fault}
use Rattle.sf_object.proofs.laws.first_faults_are_answered.Goals as goal

pub returns : goal.returns
returns c = answers_first_fault
