use Rattle.std.proofs.Common.{◌≡◌, ◌++◌, ◌∷◌, [], ap, sym, subst, ◌∙◌}
use Rattle.sf_algebra.specs.Vectors.{Vector}
use Rattle.sf_algebra.proofs.Basics.Lists.{AllByRecursion-get}
use Rattle.sf_groebner.specs.ReducedBases.{IsMonic}
use Rattle.sf_groebner.specs.Criterion.{lead_place}
use Rattle.sf_reduce.proofs.LeadIndexes.{lead_place-first, lead_places-take}
use Rattle.sf_reduce.proofs.leads.Leads.of.Goals as goal

pub loop-i-preserved : goal.loop-i-preserved
loop-i-preserved c =
    let row = c.row.result.now in
    let k = c.index-row-0.result.at in
    let terms = c.terms-row.ensures.terms in
    let monic = AllByRecursion-get (λ (v : Vector). IsMonic v.terms) c.args.basis.now.rows c.loop-i.i row c.requires.monic c.row.ensures.row in
    let lead : lead_place row.terms ≡ k =
    ap lead_place (sym terms)
    ∙ lead_place-first c.terms-row.result.now c.index-row-0.result (subst IsMonic (sym terms) monic) c.index-row-0.is in
    c.in_ok-push.ensures.ok
    ∙ ap (λ ks. ks ++ k ∷ []) c.loop-i.invariant
    ∙ sym (lead_places-take c.args.basis.now.rows c.loop-i.i row k c.row.ensures.row lead)
