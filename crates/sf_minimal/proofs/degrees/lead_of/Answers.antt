use Rattle.std.proofs.Common.{sym, ap, subst, ◌∙◌}
use Rattle.sf_algebra.specs.Vectors.{Vector}
use Rattle.sf_algebra.proofs.Basics.Lists.{AllByRecursion-get}
use Rattle.sf_algebra.proofs.Multiplying.Gathering.{row_at-slice_get}
use Rattle.sf_groebner.specs.Criterion.{lead_place}
use Rattle.sf_groebner.specs.ReducedBases.{IsMonic}
use Rattle.sf_reduce.proofs.LeadIndexes.{lead_place-first}
use Rattle.sf_minimal.proofs.degrees.lead_of.Goals as goal

pub returns : goal.returns
returns c =
    let rows = c.args.m.now.rows in
    let row = c.row.result.now in
    let terms = c.terms.ensures.terms in
    let monic = AllByRecursion-get (λ (v : Vector). IsMonic v.terms) rows c.args.i row c.requires.monic c.row.ensures.row in
    record {
      lead = sym
          (ap lead_place (row_at-slice_get rows c.args.i row c.row.ensures.row ∙ sym terms)
          ∙ lead_place-first c.terms.result.now c.index-terms-0.result (subst IsMonic (sym terms) monic) c.index-terms-0.is);
    }
