use Rattle.std.proofs.Common.{◌≡◌, ◌≢◌, sym, ◌∙◌, length, rules, arith}
use Rattle.std.specs.declared.cmp.Ordering.TheVariants.{Greater}
use Rattle.sf_algebra.specs.Rings.{ones}
use Rattle.sf_groebner.specs.ReducedBases.{row_cmp}
use Rattle.sf_buchberger.proofs.Insertions.{insert_at, insert_end, insert_later}
use Rattle.sf_buchberger.proofs.sorting.place_of.Goals as goal

pub returns-then-ne-clause-place : goal.returns-then-ne-clause-place
returns-then-ne-clause-place c =
    let far : row_cmp ones c.args.row.now c.index-sorted-place.result ≢ Greater = search rules in
    sym (insert_at ones c.args.row.now c.index-sorted-place.result c.args.sorted.now c.loop-place.place (omega (arith, c.loop-place-test.true)) c.index-sorted-place.is far)
    ∙ c.loop-place.invariant

pub loop-place-preserved : goal.loop-place-preserved
loop-place-preserved c =
    let far : row_cmp ones c.args.row.now c.index-sorted-place.result ≡ Greater = search rules in
    insert_later ones c.args.row.now c.index-sorted-place.result c.args.sorted.now c.loop-place.place (omega (arith, c.loop-place-test.true)) c.index-sorted-place.is far
    ∙ c.loop-place.invariant

pub returns-clause-place : goal.returns-clause-place
returns-clause-place c =
    let end : c.loop-place.place ≡ length c.args.sorted.now = omega arith in
    sym (insert_end ones c.args.row.now c.args.sorted.now (length c.args.sorted.now) (omega arith))
    ∙ (rw end at c.loop-place.invariant)
