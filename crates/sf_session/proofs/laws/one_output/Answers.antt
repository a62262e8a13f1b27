use Rattle.sf_session.proofs.OneOutput.{one_output}
use Rattle.sf_session.proofs.laws.one_output.Goals as goal

pub returns : goal.returns
returns c = one_output
