use Rattle.sf_session.proofs.OneOutput.{front_begins_output}
use Rattle.sf_session.proofs.laws.front_of_output.Goals as goal

pub returns : goal.returns
returns c = front_begins_output
