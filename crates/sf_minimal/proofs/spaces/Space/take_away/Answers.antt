use Rattle.std.proofs.Common.{◌≡◌, sym, ap, subst, ◌∙◌}
use Rattle.sf_algebra.specs.Divisibility.{Divides, quotient}
use Rattle.sf_algebra.specs.Terms.{Term}
use Rattle.sf_algebra.specs.Vectors.{Place}
use Rattle.sf_dense.specs.Entries.{column_at}
use Rattle.sf_groebner.specs.Criterion.{lead_at}
use Rattle.sf_groebner.specs.Leads.{PlaceDivides}
use Rattle.sf_reduce.proofs.DivisionLoops.{divisor_among_rows}
use Rattle.sf_minimal.specs.Spaces.{IsAdded, sum_of}
use Rattle.sf_minimal.proofs.SpaceSteps.{column-read}
use Rattle.sf_minimal.proofs.spaces.Space.take_away.Goals as goal

pub quotient-factor-requires : goal.quotient-factor-requires
quotient-factor-requires c =
    let rows = c.args.m.now.rows in
    let i = c.in-Some.i in
    let k : Place = record { position = c.place.inside.position; monomial = c.place.inside.monomial } in
    let found = divisor_among_rows rows c.args.leads.now k i c.requires.leads c.in-Some.ensures.within c.in-Some.ensures.divisor in
    let lead = ap (λ (u : Term Place). u.at.monomial) c.behind-m.view_is ∙ ap (λ (l : Place). l.monomial) c.lead_of.ensures.lead in
    record { divisor = subst (λ a. Divides a k.monomial) (sym lead) found.1.1 }

pub returns-else-not-branch-clause-taken : goal.returns-else-not-branch-clause-taken
returns-else-not-branch-clause-taken c =
    let m = c.args.m.now in
    let s = c.args.self.now in
    let i = c.in-Some.i in
    let k : Place = record { position = c.place.inside.position; monomial = c.place.inside.monomial } in
    let found = divisor_among_rows m.rows c.args.leads.now k i c.requires.leads c.in-Some.ensures.within c.in-Some.ensures.divisor in
    let lead = ap (λ (u : Term Place). u.at.monomial) c.behind-m.view_is ∙ ap (λ (l : Place). l.monomial) c.lead_of.ensures.lead in
    let place : k ≡ column_at s.places.items c.args.cell = c.place.view_is ∙ column-read s.places.items c.args.cell c.index-place.result.now c.requires.inside c.index-place.ensures in
    let factor : c.quotient-factor.result ≡ quotient (column_at s.places.items c.args.cell).monomial (lead_at m.rows i).monomial =
    c.quotient-factor.ensures.quotient ∙ (λ x. quotient (place x).monomial (lead x)) in
    record {
      row = i;
      within = found.0;
      divides = subst (PlaceDivides (lead_at m.rows i)) place found.1;
      step = λ x. record { at = record { position = i; monomial = factor x }; coefficient = c.args.residue };
      added = subst (λ a. IsAdded m i a c.args.residue (sum_of m s) (sum_of m c.subtract.new.self)) factor
          (c.in_ok-subtract-in-Some.ensures.sum c.if-not-branch.false);
    }
