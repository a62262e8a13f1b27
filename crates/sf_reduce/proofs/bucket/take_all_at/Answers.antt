use Rattle.std.proofs.Common.{◌+◌, slice_set, sym, ◌∙◌, subst}
use Rattle.std.proofs.lemmas.Option.{slice_get_read}
use Rattle.sf_reduce.proofs.Takings.{IsTaking, IsTaking-start, IsTaking-next, IsTaking-sum, IsTaking-fewer}
use Rattle.sf_reduce.proofs.bucket.take_all_at.Goals as goal

pub loop-level-init : goal.loop-level-init
loop-level-init c =
    IsTaking-start c.args.modulus c.facts.ensures.positive c.args.place.now.at c.args.buckets.now c.requires.canonical
    c.requires.greatest.above

pub loop-level-preserved : goal.loop-level-preserved
loop-level-preserved c =
    let k = c.args.place.now.at in
    let bs = c.loop-level.buckets in
    let read = slice_get_read bs _ c.loop-level.level c.index-buckets-level.result (sym c.loop-level.invariant.size) c.loop-level-test.true c.index-buckets-level.is in
    let taken = c.take_at-part.ensures in
    let next = IsTaking-next c.args.modulus c.facts.ensures.positive k c.args.buckets.now c.loop-level.level c.loop-level.coefficient bs c.loop-level.invariant c.index-buckets-level.result c.take_at-part.new.self c.take_at-part.result read (c.index-buckets-level.is ∙ taken.taken) taken.residue taken.canonical taken.below in
    subst (λ n. IsTaking c.args.modulus k c.args.buckets.now (c.loop-level.level + 1) n (slice_set bs c.loop-level.level c.take_at-part.new.self)) (sym c.add-coefficient.ensures.sum) next

pub returns-clause-sum : goal.returns-clause-sum
returns-clause-sum c =
    IsTaking-sum c.args.modulus c.facts.ensures.positive c.args.place.now.at c.args.buckets.now c.loop-level.level
    c.loop-level.coefficient c.loop-level.buckets c.loop-level.invariant c.loop-level-test.false

pub returns-clause-fewer : goal.returns-clause-fewer
returns-clause-fewer c =
    IsTaking-fewer c.args.modulus c.facts.ensures.positive c.args.place.now.at c.args.buckets.now c.loop-level.level
    c.loop-level.coefficient c.loop-level.buckets c.loop-level.invariant c.loop-level-test.false
    c.requires.greatest.reached
