use Rattle.std.proofs.Common.{◌≡◌, slice_get}
use Rattle.sf_object.specs.Shelves.{steps_up_to}
use Rattle.sf_session.proofs.outcomes.first_steps.Given as goal

abbrev pub invariant-loop-before : goal.invariant-loop-before
invariant-loop-before g l = l.steps ≡ steps_up_to l.before (slice_get (g.S.Steps.shelf l.fn.shelf) l.fn.id)
