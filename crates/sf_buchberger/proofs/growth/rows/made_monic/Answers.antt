use Rattle.std.proofs.Common.{◌≡◌, ◌+ℤ◌, pos, sym, ◌∙◌, ap, subst}
use Rattle.std.proofs.lemmas.Result.{IfOk-weaker}
use Rattle.sf_algebra.specs.Monomials.{Monomial, exponent_sum}
use Rattle.sf_algebra.specs.Multiples.{multiple, place_product}
use Rattle.sf_algebra.specs.Residues.{product_mod}
use Rattle.sf_algebra.specs.Rings.{ones}
use Rattle.sf_algebra.specs.Terms.{Term}
use Rattle.sf_algebra.specs.Vectors.{Place, Vector, IsVector, place_cmp, place_degree}
use Rattle.sf_matrix.specs.Bounds.{HasRoom}
use Rattle.sf_buchberger.proofs.MonicMultiples.{HasRoom-one, IsCanonical-plain, IsMadeMonic-multiple, IsVector-made, made_degree}
use Rattle.sf_buchberger.specs.GrowthSteps.{IsMadeMonic}
use Rattle.sf_buchberger.proofs.growth.rows.made_monic.Goals as goal

pub multiple-requires-clause-canonical : goal.multiple-requires-clause-canonical
multiple-requires-clause-canonical c =
    IsCanonical-plain c.modulus-modulus.result c.args.rows.now.ring c.modulus-modulus.ensures.ring c.args.rows.now.target c.args.rest.now c.requires.vector

pub multiple-requires-clause-room : goal.multiple-requires-clause-room
multiple-requires-clause-room c =
    subst (λ (a : Monomial). HasRoom a c.args.rest.now.terms) (sym c.one.ensures.one)
    (HasRoom-one c.modulus-modulus.result c.args.rows.now.ring c.modulus-modulus.ensures.ring c.args.rows.now.target c.args.rest.now c.requires.vector c.requires.room)

pub returns-clause-vector : goal.returns-clause-vector
returns-clause-vector c =
    IfOk-weaker c.multiple.result
    (λ (v : Vector). v ≡ record { degree = c.args.rest.now.degree +ℤ pos (exponent_sum c.one.result); terms = multiple (place_cmp ones) place_product c.modulus-modulus.result (record { at = c.one.result; coefficient = c.inv.result }) c.args.rest.now.terms })
    (λ (v : Vector). IsVector c.args.rows.now.ring c.args.rows.now.target v)
    (λ v made.
    IsVector-made c.modulus-modulus.result c.args.rows.now.ring c.modulus-modulus.ensures.ring c.args.rows.now.target c.args.rest.now c.requires.vector c.args.lead.now c.requires.lead c.inv.result v
    (rw c.one.ensures.one at made) c.facts.ensures.positive)
    c.multiple.ensures.multiple

pub returns-clause-monic : goal.returns-clause-monic
returns-clause-monic c =
    IfOk-weaker c.multiple.result
    (λ (v : Vector). v ≡ record { degree = c.args.rest.now.degree +ℤ pos (exponent_sum c.one.result); terms = multiple (place_cmp ones) place_product c.modulus-modulus.result (record { at = c.one.result; coefficient = c.inv.result }) c.args.rest.now.terms })
    (λ (v : Vector). IsMadeMonic c.args.rows.now.ring c.args.lead.now c.args.rest.now v)
    (λ v made.
    IsMadeMonic-multiple c.modulus-modulus.result c.args.rows.now.ring c.modulus-modulus.ensures.ring c.args.rows.now.target c.args.rest.now c.requires.vector c.args.lead.now c.requires.lead c.inv.result v
    (rw c.one.ensures.one at made) c.inv.ensures.below
    (ap (λ (t : Term Place). product_mod c.modulus-modulus.result t.coefficient c.inv.result) (sym c.lead.view_is) ∙ c.inv.ensures.inverse))
    c.multiple.ensures.multiple

pub returns-clause-degree : goal.returns-clause-degree
returns-clause-degree c =
    IfOk-weaker c.multiple.result
    (λ (v : Vector). v ≡ record { degree = c.args.rest.now.degree +ℤ pos (exponent_sum c.one.result); terms = multiple (place_cmp ones) place_product c.modulus-modulus.result (record { at = c.one.result; coefficient = c.inv.result }) c.args.rest.now.terms })
    (λ (v : Vector). v.degree ≡ place_degree ones c.args.rows.now.target c.args.lead.now.at)
    (λ v made.
    made_degree c.modulus-modulus.result c.args.rows.now.ring c.modulus-modulus.ensures.ring c.args.rows.now.target c.args.rest.now c.requires.vector c.args.lead.now c.requires.lead c.inv.result v
    (rw c.one.ensures.one at made))
    c.multiple.ensures.multiple
