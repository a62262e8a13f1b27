use Rattle.sf_reduce.proofs.Takings.{IsTaking}
use Rattle.sf_reduce.proofs.bucket.take_all_at.Given as goal

abbrev pub invariant-loop-level : goal.invariant-loop-level
invariant-loop-level l = IsTaking l.modulus l.place.at l.fn.buckets l.level l.coefficient l.buckets
