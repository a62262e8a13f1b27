use Rattle.std.proofs.Common.{length}
use Rattle.sf_algebra.specs.Rings.{ones}
use Rattle.sf_algebra.specs.Vectors.{place_cmp}
use Rattle.sf_algebra.proofs.Terms.Canonical.{IsTesting}
use Rattle.sf_matrix.proofs.sums.are_canonical.Given as goal

abbrev pub invariant-loop-rest : goal.invariant-loop-rest
invariant-loop-rest l = IsTesting (place_cmp ones) l.modulus l.rest l.fn.terms

abbrev pub decreases-loop-rest : goal.decreases-loop-rest
decreases-loop-rest l = length l.rest
