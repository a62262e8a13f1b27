use Rattle.std.proofs.Common.{◌≡◌, ◌++◌, ◌∷◌, [], sym, ◌∙◌, ap, to_z, of_z, w32, w64, rules, length}
use Rattle.sf_algebra.specs.Divisibility.{lcm}
use Rattle.sf_algebra.specs.Rings.{ones}
use Rattle.sf_algebra.specs.Terms.{Term}
use Rattle.sf_algebra.specs.Vectors.{Place}
use Rattle.sf_pairs.specs.Queue.{pair_of}
use Rattle.sf_buchberger.proofs.QueuedPairs.{degree-lcm_with, pair_with-one}
use Rattle.sf_buchberger.proofs.growth.pairing.push_pair.Goals as goal

pub returns-in_ok-push : goal.returns-in_ok-push
returns-in_ok-push c =
    let rows = c.args.rows.now.rows in
    let target = c.args.rows.now.target in
    let lead : Place = c.args.lead.now.at in
    let i = c.args.i in
    let first = ap (λ (t : Term Place). t.at) c.other.view_is ∙ c.lead_of-other.ensures.lead in
    let second = ap (λ (t : Term Place). t.at) c.lead.view_is in
    let same = sym (ap (λ (k : Place). k.position) first) ∙ c.if-other-lead.true ∙ ap (λ (k : Place). k.position) second in
    let multiple = c.lcm-lcm.ensures.lcm ∙ (λ k. lcm (first k).monomial (second k).monomial) in
    let degree : to_z w64 (of_z w64 c.degree_by_lead-degree.result) ≡ c.degree_by_lead-degree.result = search rules in
    let own : to_z w32 (of_z w32 c.args.degree) ≡ c.args.degree = search rules in
    let there = degree ∙ degree-lcm_with target rows lead i c.args.degree c.degree_by_lead-degree.result c.lcm-lcm.result c.lead.inside.monomial multiple (ap (λ (k : Place). k.monomial) second) c.requires.degree (rw own at c.degree_by_lead-degree.ensures) in
    record {
      ok = c.in_ok-push.ensures.ok
          ∙ (λ k. c.args.pairs.now ++ pair_of (there k) i (c.rows.ensures.len k) ∷ [])
          ∙ ap (λ l. c.args.pairs.now ++ l) (sym (pair_with-one ones target rows lead (length rows) i same));
    }
