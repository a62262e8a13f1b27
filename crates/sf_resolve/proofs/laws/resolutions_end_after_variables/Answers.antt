use Rattle.sf_resolve.proofs.Ends.{ends_after}
use Rattle.sf_resolve.proofs.laws.resolutions_end_after_variables.Goals as goal

pub returns : goal.returns
returns c = ends_after
