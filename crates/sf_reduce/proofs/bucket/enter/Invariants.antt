use Rattle.sf_algebra.specs.Rings.{plain}
use Rattle.sf_algebra.specs.VectorOperations.{row_sum}
use Rattle.sf_reduce.specs.Buckets.{sum_of_lists}
use Rattle.sf_reduce.proofs.Enterings.{IsEntering}
use Rattle.sf_reduce.proofs.bucket.enter.Given as goal

abbrev pub invariant-loop-level : goal.invariant-loop-level
invariant-loop-level l =
    IsEntering l.modulus l.fn.buckets.items
    (row_sum (plain l.modulus) l.fn.terms.items (sum_of_lists l.modulus l.fn.buckets.items)) l.terms.items
    l.buckets.items
