use Rattle.std.proofs.Common.{◌≡◌, ◌<◌, ◌+◌, refl, sym, ap, ◌∙◌, length, rules, arith, get_or, slice_set, ◌++◌, ◌∷◌, []}
use Rattle.std.proofs.lemmas.Option.{slice_get_read}
use Rattle.sf_algebra.proofs.Basics.Lists.{AllByRecursion-get, take-slice_get}
use Rattle.sf_matrix.specs.Columns.{entered}
use Rattle.sf_matrix.proofs.Entering.{entered-nil, entered-push, length-entered, in_row}
use Rattle.sf_matrix.proofs.matrix.transpose.enter_row.Goals as goal

pub loop-term-init : goal.loop-term-init
loop-term-init c = sym (entered-nil c.args.i 0 _)

pub index_mut-requires : goal.index_mut-requires
index_mut-requires c =
    let read = slice_get_read _ _ _ _ refl c.loop-term-test.true c.term-item.is in
    let inside = AllByRecursion-get _ c.args.terms.now c.loop-term.term-index c.term-item.result c.requires read in
    let size = ap length c.loop-term.invariant ∙ length-entered c.args.i _ 0 c.args.columns.now.items in
    let place : c.term.inside.position ≡ c.term-item.result.at.position = ap (λ t. t.at.position) c.term.view_is in
    let below : c.term.inside.position < length c.loop-term.columns.items = omega (arith, inside, size, place) in
    search rules

pub loop-term-preserved : goal.loop-term-preserved
loop-term-preserved c =
    let read = slice_get_read _ _ _ _ refl c.loop-term-test.true c.term-item.is in
    let inside = AllByRecursion-get _ c.args.terms.now c.loop-term.term-index c.term-item.result c.requires read in
    let place : c.term.inside.position ≡ c.term-item.result.at.position = ap (λ t. t.at.position) c.term.view_is in
    let here : c.term-item.result.at.position ≡ 0 + c.term.inside.position = omega (arith, place) in
    let below : c.term.inside.position < length c.args.columns.now.items = omega (arith, inside, place) in
    let pushed = entered-push c.args.i _ c.term-item.result 0 c.args.columns.now.items c.term.inside.position c.index_mut.result.now here below (c.index_mut.ensures.value ∙ ap (λ cs. get_or cs c.term.inside.position c.index_mut.result.now) c.loop-term.invariant) in
    ap (λ ts. slice_set c.loop-term.columns.items c.term.inside.position ts)
    (c.in_ok-push.ensures.ok ∙ (λ l. c.index_mut.result.now ++ in_row c.args.i (c.term.view_is l) ∷ []))
    ∙ ap (λ cs. slice_set cs c.term.inside.position (c.index_mut.result.now ++ in_row c.args.i c.term-item.result ∷ [])) c.loop-term.invariant
    ∙ sym pushed
    ∙ ap (λ ts. entered c.args.i ts 0 c.args.columns.now.items)
    (sym (take-slice_get c.args.terms.now c.loop-term.term-index c.term-item.result read))
