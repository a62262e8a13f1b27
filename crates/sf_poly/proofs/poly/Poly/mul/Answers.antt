use Rattle.std.proofs.Common.{ap}
use Rattle.sf_poly.specs.Bounds.{ProductFits}
use Rattle.sf_poly.proofs.Leads.{HasRoom-ProductFits}
use Rattle.sf_poly.proofs.poly.Poly.mul.Goals as goal

pub product_of_terms-requires-clause-room : goal.product_of_terms-requires-clause-room
product_of_terms-requires-clause-room c =
    let fits : ProductFits c.self.inside.terms.items c.other.inside.terms.items =
    rw (ap (λ f. f.terms) c.self.view_is, ap (λ f. f.terms) c.other.view_is) c.requires.room in
    rw (c.deref.ensures.value, c.deref-2.ensures.value)
    (HasRoom-ProductFits _ _ c.self.invariant.descending c.other.invariant.descending fits)
