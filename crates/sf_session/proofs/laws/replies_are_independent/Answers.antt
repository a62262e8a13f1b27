use Rattle.sf_session.proofs.Independence.{changes_no_answer, fixed_by_names}
use Rattle.sf_session.proofs.laws.replies_are_independent.Goals as goal

pub returns : goal.returns
returns c = record { fixed = fixed_by_names; unchanged = changes_no_answer }
