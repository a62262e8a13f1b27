use Rattle.std.proofs.Common.{take}
use Rattle.sf_reduce.specs.Buckets.{GreatestOf}
use Rattle.sf_reduce.proofs.bucket.greatest_of.Given as goal

abbrev pub invariant-loop-bucket : goal.invariant-loop-bucket
invariant-loop-bucket l = GreatestOf l.greatest (take l.bucket-index l.buckets)
