use Rattle.std.proofs.Common.{rules, ◌≡◌, Some, ap, subst}
use Rattle.sf_algebra.specs.Monomials.{monomial_cmp}
use Rattle.sf_algebra.specs.Rings.{ones}
use Rattle.sf_algebra.specs.Terms.{IsDescending}
use Rattle.sf_poly.specs.Polynomials.{lead}
use Rattle.sf_poly.proofs.Leads.{IsBoundedBy-monomial}
use Rattle.sf_poly.proofs.poly.Poly.degree.Goals as goal

pub returns-clause-greatest : goal.returns-clause-greatest
returns-clause-greatest c =
    let terms = c.args.self.now.terms in
    let descending =
    subst (IsDescending (monomial_cmp ones)) (ap (λ f. f.terms) c.self.view_is) c.self.invariant.descending in
    let is : Some (c.first-2.inside.monomial, c.first-2.inside.coefficient) ≡ lead terms = search rules in
    IsBoundedBy-monomial terms c.first-2.inside.monomial _ _ descending is c.sum.ensures.sum
