use Rattle.std.proofs.Common.{◌≡◌, sym, ap, subst, ◌∙◌, rules, to_z, of_z, w32, w64, pos, ◌+ℤ◌, ◌-ℤ◌}
use Rattle.sf_algebra.specs.Monomials.{exponent_sum}
use Rattle.sf_algebra.specs.Rings.{Ring, ones}
use Rattle.sf_algebra.specs.Terms.{Term}
use Rattle.sf_algebra.specs.Vectors.{IsHomogeneous, IsVector, Place, Vector}
use Rattle.sf_algebra.proofs.Basics.Lists.{AllByRecursion-get}
use Rattle.sf_algebra.proofs.Multiplying.Gathering.{row_at-slice_get}
use Rattle.sf_groebner.specs.ReducedBases.{IsMonic}
use Rattle.sf_minimal.proofs.LowLeads.{degree-pair}
use Rattle.sf_minimal.proofs.degrees.pair_degree.Goals as goal

pub returns-clause-degree : goal.returns-clause-degree
returns-clause-degree c =
    let m = c.args.m.now in
    let rows = m.rows in
    let row = c.row.result.now in
    let first = ap (λ (u : Term Place). u.at.monomial) c.first.view_is ∙ ap (λ (k : Place). k.monomial) c.lead_of-first.ensures.lead in
    let vector = AllByRecursion-get (IsVector m.ring m.target) rows c.args.i row c.row.ensures.matrix c.row.ensures.row in
    let monic = AllByRecursion-get (λ (v : Vector). IsMonic v.terms) rows c.args.i row c.requires.monic c.row.ensures.row in
    let terms = sym (row_at-slice_get rows c.args.i row c.row.ensures.row) in
    let degree : to_z w64 (of_z w64 c.raised.result) ≡ c.raised.result = search rules in
    let own : to_z w32 (of_z w32 c.degree.result) ≡ row.degree = search rules in
    let homogeneous : IsHomogeneous ones m.target row.degree row.terms =
    subst (λ (r : Ring). IsHomogeneous r.weights m.target row.degree row.terms) c.matrix_facts.ensures.weights vector.homogeneous in
    degree
    ∙ degree-pair m.target rows c.args.i c.args.j row.degree c.raised.result c.first.inside.monomial c.lead_lcm-lcm.result first c.lead_lcm-lcm.ensures.lcm
    (subst IsMonic terms monic) (subst (IsHomogeneous ones m.target row.degree) terms homogeneous)
    (c.raised.ensures ∙ ap (λ d. (d -ℤ pos (exponent_sum c.first.inside.monomial)) +ℤ pos (exponent_sum c.lead_lcm-lcm.result)) own)
