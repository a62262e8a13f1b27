use Rattle.sf_buchberger.specs.Eliminations.{GoesOn}
use Rattle.sf_buchberger.proofs.counted.elimination.Elimination.take_generators.Given as goal

-- what was done so far goes on from the start
abbrev pub invariant-loop : goal.invariant-loop
invariant-loop g l = GoesOn l.m l.initial.self l.self
