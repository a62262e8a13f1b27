use Rattle.sf_buchberger.specs.Loops.{IsLooping, left_to_do}
use Rattle.sf_buchberger.proofs.growth.grown_rows.Given as goal

abbrev pub invariant-loop-turn : goal.invariant-loop-turn
invariant-loop-turn g l = IsLooping l.limit l.m l.growth

abbrev pub decreases-loop-turn : goal.decreases-loop-turn
decreases-loop-turn g l = left_to_do l.growth
