use Rattle.std.proofs.Common.{◌≡◌, ◌<◌, length, map, refl, sym, ◌∙◌, ap, subst, rules}
use Rattle.std.proofs.lemmas.Option.{slice_get_read}
use Rattle.sf_algebra.specs.Divisibility.{Divides, quotient}
use Rattle.sf_algebra.specs.Monomials.{Monomial}
use Rattle.sf_algebra.specs.Terms.{Term}
use Rattle.sf_algebra.specs.Vectors.{Place}
use Rattle.sf_algebra.proofs.Basics.Lists.{AllByRecursion-get}
use Rattle.sf_algebra.proofs.Multiplying.Gathering.{row_at-slice_get}
use Rattle.sf_groebner.specs.Criterion.{lead_at}
use Rattle.sf_groebner.specs.Leads.{PlaceDivides}
use Rattle.sf_groebner.specs.Spans.{graph_degrees}
use Rattle.sf_variables.specs.Columns.{IsColumn}
use Rattle.sf_dense.specs.Entries.{placed}
use Rattle.sf_dense.specs.MonicEntries.{AreWithin}
use Rattle.sf_dense.specs.Walks.{times_monomial}
use Rattle.sf_buchberger.specs.Eliminations.{IsGraphList}
use Rattle.sf_buchberger.proofs.DegreeBases.Found.{IfSome-both}
use Rattle.sf_buchberger.proofs.DegreeBases.GraphLists.{IsGraphList-multiple}
use Rattle.sf_buchberger.proofs.counted.elimination.Elimination.multiple.Goals as goal

pub returns : goal.returns
returns c =
    let m = c.args.m.now in
    let e = c.args.self.now in
    let rows = c.args.rows.now.rows in
    let i = c.args.i in
    let ks = e.columns.items in
    let columns = c.requires.elimination.columns in
    let k : Place = c.index-place.result.now in
    let lead : Place = lead_at rows i in
    let there : c.place.inside.monomial ≡ k.monomial = ap (λ (l : Place). l.monomial) c.place.view_is in
    let at_lead : c.lead.inside.monomial ≡ lead.monomial =
    ap (λ (t : Term Place). t.at.monomial) c.lead.view_is ∙ ap (λ (l : Place). l.monomial) c.lead_of-lead.ensures.lead in
    let position : lead.position ≡ k.position =
    sym (ap (λ (t : Term Place). t.at.position) c.lead.view_is ∙ ap (λ (l : Place). l.position) c.lead_of-lead.ensures.lead)
    ∙ c.if-lead-place.false ∙ ap (λ (l : Place). l.position) c.place.view_is in
    let divides : PlaceDivides lead k =
    (position, subst (λ (a : Monomial). Divides a k.monomial) at_lead (subst (Divides c.lead.inside.monomial) there (c.if-not-divides.ensures.divides.0 refl))) in
    let factor : c.quotient-factor.result ≡ quotient k.monomial lead.monomial =
    c.quotient-factor.ensures.quotient ∙ (λ j. quotient (there j) (at_lead j)) in
    let column : IsColumn m.ring.weights e.variables (graph_degrees m) e.degree k =
    AllByRecursion-get (IsColumn m.ring.weights e.variables (graph_degrees m) e.degree) ks c.args.cell k columns.inside
    (slice_get_read ks (length ks) c.args.cell k refl (search rules) c.index-place.ensures) in
    let within : i < length rows = search rules in
    record {
      entries =
          IfSome-both (λ es. placed c.deref.result.now es.items ≡ map (times_monomial c.quotient-factor.result) c.terms.result.now)
          (λ es. AreWithin (length c.deref.result.now) es.items) (λ es. IsGraphList e.variables m e.degree ks es.items)
          (λ es same inside. IsGraphList-multiple e.variables m c.facts.ensures.field c.facts.ensures.matrix e.degree ks columns rows c.requires.rows k column i within divides es.items
          ((λ j. placed (sym c.deref.ensures.value j) es.items) ∙ same
          ∙ (λ j. map (times_monomial (factor j)) ((c.terms.ensures.terms ∙ sym (row_at-slice_get rows i c.row.result.now c.row.ensures.row)) j)))
          (subst (λ ls. AreWithin (length ls) es.items) c.deref.ensures.value inside))
          c.multiple_entries.result c.multiple_entries.ensures.entries c.multiple_entries.ensures.within;
    }
