use Rattle.sf_minimal.specs.Spaces.{GoesOn, sum_of}
use Rattle.sf_minimal.proofs.Reducing.{IsReducing}
use Rattle.sf_minimal.proofs.spaces.Space.quotients.Given as goal

abbrev pub invariant-loop-cell : goal.invariant-loop-cell
invariant-loop-cell l = GoesOn l.m l.initial.self l.self
    × IsReducing l.m l.v.degree l.v.terms (sum_of l.m l.self) l.steps.items
