use Rattle.sf_buchberger.specs.Eliminations.{GoesOn}
use Rattle.sf_buchberger.proofs.counted.elimination.Elimination.clear_found.Given as goal

-- what was done so far goes on from the start
abbrev pub invariant-loop-k : goal.invariant-loop-k
invariant-loop-k l = GoesOn l.m l.initial.self l.self
