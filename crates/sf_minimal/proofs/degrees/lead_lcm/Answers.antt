use Rattle.std.proofs.Common.{◌≡◌, ap, ◌∙◌, arith}
use Rattle.sf_algebra.specs.Divisibility.{lcm}
use Rattle.sf_algebra.specs.Monomials.{exponent_sum}
use Rattle.sf_algebra.specs.Terms.{Term}
use Rattle.sf_algebra.specs.Vectors.{Place}
use Rattle.sf_groebner.specs.Criterion.{lead_at}
use Rattle.sf_minimal.proofs.LowLeads.{low_lcm}
use Rattle.sf_minimal.proofs.degrees.lead_lcm.Goals as goal

pub lcm-requires : goal.lcm-requires
lcm-requires c =
    let rows = c.args.m.now.rows in
    let first = ap (λ (u : Term Place). u.at.monomial) c.behind-m.view_is ∙ ap (λ (k : Place). k.monomial) c.lead_of.ensures.lead in
    let second = ap (λ (u : Term Place). u.at.monomial) c.behind-m-2.view_is ∙ ap (λ (k : Place). k.monomial) c.lead_of-2.ensures.lead in
    let low = low_lcm rows c.requires.low c.args.i c.args.j c.requires.first c.requires.second in
    let same : exponent_sum (lcm c.behind-m.inside.monomial c.behind-m-2.inside.monomial) ≡ exponent_sum (lcm (lead_at rows c.args.i).monomial (lead_at rows c.args.j).monomial) =
    λ k. exponent_sum (lcm (first k) (second k)) in
    record { fits = omega (arith, low, same) }
