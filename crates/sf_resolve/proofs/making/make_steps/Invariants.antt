use Rattle.sf_resolve.proofs.StepMeets.{AreMade}
use Rattle.sf_resolve.proofs.making.make_steps.Given as goal

abbrev pub invariant-loop : goal.invariant-loop
invariant-loop g l =
    AreMade (g.B.Bases.table l.fn.bases) l.relations l.fn.steps.items l.counter l.steps.items (g.B.Bases.table l.bases)
