use Rattle.std.proofs.Common.{◌≡◌, ap, sym, subst, ◌∙◌, pos, ◌+ℤ◌}
use Rattle.std.proofs.lemmas.Result.{IfOk-weaker}
use Rattle.sf_algebra.specs.Monomials.{Monomial, exponent_sum}
use Rattle.sf_algebra.specs.Multiples.{multiple, place_product}
use Rattle.sf_algebra.specs.Residues.{product_mod}
use Rattle.sf_algebra.specs.Rings.{ones}
use Rattle.sf_algebra.specs.Terms.{Term}
use Rattle.sf_algebra.specs.Vectors.{IsVector, Place, Vector, place_cmp}
use Rattle.sf_matrix.specs.Bounds.{HasRoom}
use Rattle.sf_minimal.specs.Pivots.{IsMonicMultiple}
use Rattle.sf_minimal.proofs.MonicMultiples.{IsMonicMultiple-made, IsVector-made, rest-canonical, rest-room}
use Rattle.sf_minimal.proofs.pivots.made_monic.Goals as goal

pub multiple-requires-clause-canonical : goal.multiple-requires-clause-canonical
multiple-requires-clause-canonical c =
    rest-canonical c.modulus-modulus.result c.facts.ensures.prime c.args.pivots.now.ring c.modulus-modulus.ensures.ring c.args.pivots.now.target c.requires.pivots.target c.args.rest.now c.requires.vector c.requires.degree

pub multiple-requires-clause-room : goal.multiple-requires-clause-room
multiple-requires-clause-room c =
    subst (λ (a : Monomial). HasRoom a c.args.rest.now.terms) (sym c.one.ensures.one)
    (rest-room c.modulus-modulus.result c.facts.ensures.prime c.args.pivots.now.ring c.modulus-modulus.ensures.ring c.args.pivots.now.target c.requires.pivots.target c.args.rest.now c.requires.vector c.requires.degree)

pub returns-clause-multiple : goal.returns-clause-multiple
returns-clause-multiple c =
    IfOk-weaker c.multiple.result
    (λ (v : Vector). v ≡ record { degree = c.args.rest.now.degree +ℤ pos (exponent_sum c.one.result); terms = multiple (place_cmp ones) place_product c.modulus-modulus.result (record { at = c.one.result; coefficient = c.inv.result }) c.args.rest.now.terms })
    (λ (v : Vector). IsMonicMultiple c.args.pivots.now.ring c.args.rest.now.terms v)
    (λ v made.
    IsMonicMultiple-made c.modulus-modulus.result c.facts.ensures.prime c.args.pivots.now.ring c.modulus-modulus.ensures.ring c.args.pivots.now.target c.requires.pivots.target c.args.rest.now c.requires.vector c.requires.degree
    c.args.lead.now c.requires.lead c.inv.result c.inv.ensures.nonzero c.inv.ensures.below
    (ap (λ (t : Term Place). product_mod c.modulus-modulus.result t.coefficient c.inv.result) (sym c.lead.view_is) ∙ c.inv.ensures.inverse) v (rw c.one.ensures.one at made))
    c.multiple.ensures.multiple

pub returns-clause-vector : goal.returns-clause-vector
returns-clause-vector c =
    IfOk-weaker c.multiple.result
    (λ (v : Vector). v ≡ record { degree = c.args.rest.now.degree +ℤ pos (exponent_sum c.one.result); terms = multiple (place_cmp ones) place_product c.modulus-modulus.result (record { at = c.one.result; coefficient = c.inv.result }) c.args.rest.now.terms })
    (λ (v : Vector). IsVector c.args.pivots.now.ring c.args.pivots.now.target v)
    (λ v made.
    IsVector-made c.modulus-modulus.result c.facts.ensures.prime c.args.pivots.now.ring c.modulus-modulus.ensures.ring c.args.pivots.now.target c.requires.pivots.target c.args.rest.now c.requires.vector c.requires.degree
    c.args.lead.now c.requires.lead c.inv.result c.inv.ensures.nonzero c.inv.ensures.below
    (ap (λ (t : Term Place). product_mod c.modulus-modulus.result t.coefficient c.inv.result) (sym c.lead.view_is) ∙ c.inv.ensures.inverse) v (rw c.one.ensures.one at made))
    c.multiple.ensures.multiple
