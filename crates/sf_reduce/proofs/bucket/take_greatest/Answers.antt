use Rattle.std.proofs.Common.{sym, ◌∙◌}
use Rattle.sf_reduce.proofs.BucketSums.{sum_of_lists-nil}
use Rattle.sf_reduce.proofs.bucket.take_greatest.Goals as goal

pub returns-clause-first : goal.returns-clause-first
returns-clause-first c =
    let none = sum_of_lists-nil c.args.modulus c.facts.ensures.positive c.loop-greatest.buckets c.in_default.ensures.greatest in
    (sym c.loop-greatest.invariant.1 ∙ none, none)
