use Rattle.std.proofs.Common.{◌+◌, length}
use Rattle.sf_algebra.specs.Rings.{ones}
use Rattle.sf_algebra.specs.Sums.{add}
use Rattle.sf_algebra.specs.Vectors.{place_cmp}
use Rattle.sf_algebra.proofs.Terms.Merge.{IsMerging}
use Rattle.sf_matrix.proofs.sums.add_terms.Given as goal

abbrev pub invariant-loop-left : goal.invariant-loop-left
invariant-loop-left l =
    IsMerging (place_cmp ones) l.modulus l.sum.items l.left l.right
    (add (place_cmp ones) l.modulus l.fn.left l.fn.right)

abbrev pub decreases-loop-left : goal.decreases-loop-left
decreases-loop-left l = length l.left + length l.right
