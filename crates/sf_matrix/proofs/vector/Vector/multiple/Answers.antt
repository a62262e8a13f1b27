use Rattle.std.proofs.Common.{◌≡◌, ◌++◌, ◌+ℤ◌, map, pos, rules, to_z, of_z, w32, ap, ◌∙◌}
use Rattle.sf_algebra.specs.Monomials.{Monomial, exponent_sum}
use Rattle.sf_algebra.specs.Multiples.{place_product, term_product}
use Rattle.sf_algebra.specs.Rings.{ones}
use Rattle.sf_algebra.specs.Terms.{Term}
use Rattle.sf_algebra.specs.Vectors.{place_cmp}
use Rattle.sf_algebra.proofs.Multiplying.Gathering.{multiple-gathered}
use Rattle.sf_matrix.proofs.vector.Vector.multiple.Goals as goal

pub returns-clause-multiple : goal.returns-clause-multiple
returns-clause-multiple c =
    let factor : Term Monomial = record { at = c.args.a; coefficient = c.args.c } in
    let degree : to_z w32 (of_z w32 c.raised.result) ≡ c.args.self.now.degree +ℤ pos (exponent_sum c.args.a) =
    search rules in
    let terms = c.deref.ensures.value ∙ ap (λ v. v.terms) c.self.view_is in
    let gathered =
    c.in_ok-push_multiple.ensures.ok
    ∙ (λ l. c.in_ok-products.ensures.items l ++ map (term_product place_product c.args.modulus factor) (terms l)) in
    let multiple =
    c.in_ok-terms.ensures.sum
    ∙ multiple-gathered (place_cmp ones) place_product c.args.modulus factor c.args.self.now.terms _ gathered in
    λ l. record { degree = degree l; terms = multiple l }
