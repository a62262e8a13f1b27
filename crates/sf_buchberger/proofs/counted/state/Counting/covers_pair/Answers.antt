use Rattle.std.specs.Prelude.{Contains}
use Rattle.std.proofs.lemmas.Bool.Decides.{when_true}
use Rattle.std.proofs.Common.{subst, ◌≡◌, ◌∙◌, ap, to_z, of_z, w32, w64, rules}
use Rattle.sf_algebra.specs.Divisibility.{lcm}
use Rattle.sf_algebra.specs.Terms.{Term}
use Rattle.sf_algebra.specs.Vectors.{Place}
use Rattle.sf_counting.specs.CountLaws.{pair_degree}
use Rattle.sf_buchberger.proofs.DegreeBases.Degrees.{Contains-equal, pair_degree-later}
use Rattle.sf_buchberger.proofs.counted.state.Counting.covers_pair.Goals as goal

pub returns-in-Ok : goal.returns-in-Ok
returns-in-Ok c =
    let rows = c.args.self.now.rows.rows in
    let first = ap (λ (t : Term Place). t.at) c.first.view_is ∙ c.lead_of-first.ensures.lead in
    let second = ap (λ (t : Term Place). t.at) c.second.view_is ∙ c.lead_of-second.ensures.lead in
    let multiple = c.lcm-lcm.ensures.lcm ∙ (λ k. lcm (first k).monomial (second k).monomial) in
    let wide : to_z w64 (of_z w64 c.degree_by_lead-degree.result) ≡ c.degree_by_lead-degree.result = search rules in
    let own : to_z w32 (of_z w32 c.degree.result) ≡ c.row.result.now.degree =
    (let wide : to_z w32 (of_z w32 c.degree.result) ≡ c.degree.result = search rules in wide) ∙ c.degree.ensures.degree in
    let narrow : to_z w32 (of_z w32 c.in-Ok.degree) ≡ c.in-Ok.degree = search rules in
    let degree = c.in-Ok.ensures.1 ∙ wide in
    record {
      covered = λ e pair.
          let there = pair_degree-later c.args.self.now.variables c.args.m.now c.facts.ensures.weights rows c.requires.rows c.args.i c.args.j pair c.row.result.now c.row.ensures.row c.degree_by_lead-degree.result c.lcm-lcm.result c.second.inside.monomial multiple (ap (λ (k : Place). k.monomial) second)
          (rw own at c.degree_by_lead-degree.ensures) in
          subst (λ l. Contains l (pair_degree c.args.m.now rows c.args.i c.args.j)) c.as_slice.ensures.items
          (Contains-equal c.as_slice.result.now _ (pair_degree c.args.m.now rows c.args.i c.args.j) (narrow ∙ degree ∙ there)
          (when_true _ _ e c.contains.ensures.cases));
    }
