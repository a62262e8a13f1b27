use Rattle.sf_presented.proofs.Steps.{spans-first_step, spans-next_step, exact-resolution}
use Rattle.sf_presented.proofs.presented.resolutions_are_exact.Goals as goal

pub returns : goal.returns
returns c = record { first = spans-first_step; next = spans-next_step; whole = exact-resolution }
