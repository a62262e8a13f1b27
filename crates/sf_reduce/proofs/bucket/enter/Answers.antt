use Rattle.std.proofs.Common.{◌<◌, [], ◌∷◌, ◌++◌, length, refl, ap, ◌∙◌, arith}
use Rattle.std.proofs.lemmas.Option.{slice_get_read}
use Rattle.sf_reduce.specs.Buckets.{sum_of_lists}
use Rattle.sf_reduce.proofs.BucketSums.{sum_of_lists-append}
use Rattle.sf_reduce.proofs.Enterings.{IsEntering-last, IsEntering-next}
use Rattle.sf_reduce.proofs.bucket.enter.Goals.{then-len-room+in_ok-enter_bucket+in-Some, else-len-room}
use Rattle.sf_reduce.proofs.bucket.enter.Goals as goal

pub returns-in-None-clause-sum : goal.returns-in-None-clause-sum
returns-in-None-clause-sum c =
    let bs = c.loop-level.buckets.items in
    let b = c.index_mut.result.now in
    let within : c.loop-level.level < length bs = omega (arith, c.loop-level.invariant.size) in
    let read = slice_get_read bs (length bs) c.loop-level.level b refl within c.index_mut.ensures.value in
    let entered = rw c.in-None.is at c.in_ok-enter_bucket.ensures.entered in
    IsEntering-last c.args.modulus c.facts.ensures.positive _ _ c.loop-level.terms.items bs c.loop-level.invariant
    c.loop-level.level b read c.enter_bucket.new.bucket entered

pub loop-level-preserved : goal.loop-level-preserved
loop-level-preserved c =
    let bs = c.loop-level.buckets.items in
    elim c.if-len-room.branch [
      | then-len-room+in_ok-enter_bucket+in-Some w ↦
          let b = w.index_mut.result.now in
          let within : c.loop-level.level < length bs = omega (arith, c.loop-level.invariant.size) in
          let read = slice_get_read bs (length bs) c.loop-level.level b refl within w.index_mut.ensures.value in
          let entered = rw w.in-Some.is at w.in_ok-enter_bucket.ensures.entered in
          let next = IsEntering-next c.args.modulus c.facts.ensures.positive _ _ c.loop-level.terms.items bs c.loop-level.invariant c.loop-level.level b read w.enter_bucket.new.bucket w.in-Some.sum.items entered.0 entered.1 w.in_ok-enter_bucket.ensures.canonical in
          rw (w.terms-is, w.buckets-is) next
      | else-len-room w ↦ rw (w.terms-is, w.buckets-is) c.loop-level.invariant
    ]

pub returns-clause-sum : goal.returns-clause-sum
returns-clause-sum c =
    let p = c.args.modulus in
    let bs = c.loop-level.buckets.items in
    let entering = c.loop-level.invariant in
    ap (sum_of_lists p) (c.in_ok-push.ensures.items ∙ ap (λ b. bs ++ b ∷ []) c.from_terms.ensures.terms)
    ∙ sum_of_lists-append p c.facts.ensures.positive bs c.loop-level.terms.items entering.terms_canonical
    ∙ entering.sum
