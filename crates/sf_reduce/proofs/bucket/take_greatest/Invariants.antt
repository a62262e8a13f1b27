use Rattle.std.proofs.Common.{◌≡◌}
use Rattle.sf_reduce.specs.Buckets.{AreCanonical, count_of_terms, sum_of_lists}
use Rattle.sf_reduce.proofs.bucket.take_greatest.Given as goal

abbrev pub invariant-loop-greatest : goal.invariant-loop-greatest
invariant-loop-greatest l =
    AreCanonical l.modulus l.buckets × (sum_of_lists l.modulus l.buckets ≡ sum_of_lists l.modulus l.fn.buckets)

abbrev pub decreases-loop-greatest : goal.decreases-loop-greatest
decreases-loop-greatest l = count_of_terms l.buckets
