use Rattle.std.proofs.Common.{◌≡◌, ◌++◌, length}
use Rattle.sf_reduce.proofs.sum.Sum.into_vector.Given as goal

abbrev pub invariant-loop-term : goal.invariant-loop-term
invariant-loop-term l = l.terms.items ++ l.left.terms ≡ l.fn.self.terms

abbrev pub decreases-loop-term : goal.decreases-loop-term
decreases-loop-term l = length l.left.terms
