use Rattle.std.proofs.Common.{sym, ◌∙◌, ap}
use Rattle.sf_algebra.specs.Rings.{ones}
use Rattle.sf_buchberger.proofs.Insertions.{sort_onto, sort_onto-nil, sort_onto-push}
use Rattle.sf_buchberger.proofs.sorting.sorted_rows.Goals as goal

pub loop-row-init : goal.loop-row-init
loop-row-init c = rw c.in_ok-sorted.ensures.items (sort_onto-nil ones c.args.rows.items)

pub loop-row-preserved : goal.loop-row-preserved
loop-row-preserved c =
    let rest = c.pop.new.self.items in
    let sorted = c.loop-row.sorted.items in
    let place = rw c.deref.ensures.value at c.place_of-place.ensures.place in
    ap (sort_onto ones rest) (c.in_ok-insert.ensures.items ∙ place)
    ∙ sym (sort_onto-push ones rest c.in-Some.row sorted)
    ∙ sym (ap (λ vs. sort_onto ones vs sorted) c.in-Some.ensures.items)
    ∙ c.loop-row.invariant
