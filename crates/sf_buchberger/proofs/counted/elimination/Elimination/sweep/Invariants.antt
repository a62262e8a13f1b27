use Rattle.sf_buchberger.specs.Eliminations.{GoesOn}
use Rattle.sf_buchberger.proofs.counted.elimination.Elimination.sweep.Given as goal

-- what was done so far goes on from the start
abbrev pub invariant-loop-cell : goal.invariant-loop-cell
invariant-loop-cell l = GoesOn l.m l.initial.self l.self
