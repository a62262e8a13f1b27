use Rattle.std.proofs.Common.{◌<◌, refl, sym, ap, subst, ◌∙◌, length, take}
use Rattle.std.specs.List.{AllByRecursion}
use Rattle.std.proofs.lemmas.Option.{slice_get_read}
use Rattle.sf_algebra.specs.Terms.{Term}
use Rattle.sf_algebra.specs.Vectors.{Place, Vector}
use Rattle.sf_algebra.proofs.Basics.Lists.{AllByRecursion-get}
use Rattle.sf_matrix.specs.Columns.{entered}
use Rattle.sf_matrix.proofs.Entering.{column_lists-take, length-column_lists}
use Rattle.sf_matrix.proofs.matrix.transpose.columns_of.Goals as goal

pub enter_row-requires : goal.enter_row-requires
enter_row-requires c =
    let read =
    slice_get_read c.args.rows.now _ c.loop-i.i c.index-rows-i.result refl c.loop-i-test.true c.index-rows-i.is in
    let within = AllByRecursion-get (λ (v : Vector). AllByRecursion (λ (t : Term Place). t.at.position < length c.args.degrees.now) v.terms) c.args.rows.now c.loop-i.i c.index-rows-i.result c.requires read in
    let terms = c.deref.ensures.value ∙ ap (λ v. v.terms) c.row.view_is in
    let size =
    ap length c.loop-i.invariant ∙ length-column_lists (take c.loop-i.i c.args.rows.now) 0 c.args.degrees.now in
    subst (λ n. AllByRecursion (λ (t : Term Place). t.at.position < n) c.deref.result.now) (sym size)
    (subst (AllByRecursion (λ (t : Term Place). t.at.position < length c.args.degrees.now)) (sym terms) within)

pub loop-i-preserved : goal.loop-i-preserved
loop-i-preserved c =
    let read =
    slice_get_read c.args.rows.now _ c.loop-i.i c.index-rows-i.result refl c.loop-i-test.true c.index-rows-i.is in
    let terms = c.deref.ensures.value ∙ ap (λ v. v.terms) c.row.view_is in
    c.in_ok-enter_row.ensures.ok
    ∙ (λ l. entered c.loop-i.i (terms l) 0 (c.loop-i.invariant l))
    ∙ column_lists-take c.args.rows.now c.loop-i.i c.index-rows-i.result c.args.degrees.now read
