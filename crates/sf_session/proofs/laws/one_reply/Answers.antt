use Rattle.sf_session.proofs.OneOutput.{one_reply}
use Rattle.sf_session.proofs.laws.one_reply.Goals as goal

pub returns : goal.returns
returns c = one_reply
