use Rattle.std.specs.List.{AllByRecursion}
use Rattle.sf_minimal.specs.Spaces.{IsSpace}
use Rattle.sf_minimal.proofs.quotients.taken_space.Given as goal

abbrev pub invariant-loop-k : goal.invariant-loop-k
invariant-loop-k l = AllByRecursion (IsSpace l.cands) l.spaces.items
