use Rattle.std.proofs.Common.{◌≡◌, map, neg_ℤ, take}
use Rattle.sf_functor.proofs.free.dual.Given as goal

abbrev pub invariant-loop-degree : goal.invariant-loop-degree
invariant-loop-degree l = l.degrees ≡ map neg_ℤ (take l.degree-index l.d.degrees)
