use Rattle.std.proofs.Common.{sym, ◌∙◌, ap, subst, map}
use Rattle.std.proofs.lemmas.List.{take_all}
use Rattle.sf_algebra.specs.Monomials.{monomial_cmp}
use Rattle.sf_algebra.specs.Multiples.{negative_term}
use Rattle.sf_algebra.specs.Rings.{ones}
use Rattle.sf_algebra.specs.Terms.{IsCanonical}
use Rattle.sf_algebra.proofs.Terms.Negatives.{IsCanonical-negative}
use Rattle.sf_poly.proofs.sums.negative.Goals as goal

pub returns-clause-canonical : goal.returns-clause-canonical
returns-clause-canonical c =
    let whole =
    c.loop-term.invariant
    ∙ ap (map (negative_term c.args.modulus)) (take_all _ c.args.terms.now c.loop-term-test.false) in
    subst (IsCanonical (monomial_cmp ones) c.args.modulus) (sym whole)
    (IsCanonical-negative (monomial_cmp ones) c.args.modulus c.args.terms.now c.requires)
