use Rattle.std.proofs.Common.{length}
use Rattle.sf_reduce.proofs.DivisionLoops.{IsLoop, head_number}
use Rattle.sf_reduce.proofs.division.rest_of.Given as goal

abbrev pub invariant-loop-first : goal.invariant-loop-first
invariant-loop-first l = IsLoop l.basis l.fn.sum l.left l.rest.items l.steps.items

abbrev pub decreases-loop-first : goal.decreases-loop-first
decreases-loop-first l = head_number (length l.basis.target) l.left.terms
