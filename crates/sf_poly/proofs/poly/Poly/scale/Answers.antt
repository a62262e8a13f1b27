use Rattle.std.proofs.Common.{◌<◌, sym, ◌∙◌, ap, arith}
use Rattle.sf_algebra.specs.Polynomials.{polynomial_multiple}
use Rattle.sf_algebra.proofs.Multiplying.Keys.{monomial_keys}
use Rattle.sf_algebra.proofs.Multiplying.MultipleLaws.{multiple-zero}
use Rattle.sf_poly.specs.Bounds.{MultipleFits}
use Rattle.sf_poly.specs.Polynomials.{monomial_term}
use Rattle.sf_poly.proofs.Leads.{HasRoom-MultipleFits}
use Rattle.sf_poly.proofs.poly.Poly.scale.Goals as goal

pub returns-then-c-eq0 : goal.returns-then-c-eq0
returns-then-c-eq0 c =
    let f = c.args.self.now in
    let positive : 0 < f.ring.modulus = omega (arith, c.requires.residue) in
    let none =
    ap (λ n. polynomial_multiple f.ring (monomial_term c.args.a n) f.terms) c.if-c-eq0.true
    ∙ multiple-zero (monomial_keys f.ring.weights) f.ring.modulus positive c.args.a f.terms in
    record { multiple = c.zero.ensures.zero ∙ (λ i. record { ring = (c.self.view_is i).ring; terms = sym none i }) }

pub multiple_of_terms-requires-clause-room : goal.multiple_of_terms-requires-clause-room
multiple_of_terms-requires-clause-room c =
    let fits : MultipleFits c.args.a c.self.inside.terms.items =
    rw (ap (λ f. f.terms) c.self.view_is) c.requires.room in
    rw c.deref.ensures.value (HasRoom-MultipleFits c.args.a _ c.self.invariant.descending fits)
