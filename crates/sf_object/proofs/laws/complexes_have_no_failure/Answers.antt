use Rattle.sf_object.proofs.ComplexFailures.{no_failure_complex}
use Rattle.sf_object.proofs.laws.complexes_have_no_failure.Goals as goal

pub returns : goal.returns
returns c = no_failure_complex
