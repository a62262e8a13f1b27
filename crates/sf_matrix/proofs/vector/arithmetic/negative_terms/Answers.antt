use Rattle.std.proofs.Common.{sym, subst}
use Rattle.sf_algebra.specs.Multiples.{negative_term}
use Rattle.sf_algebra.specs.Rings.{ones}
use Rattle.sf_algebra.specs.Terms.{IsCanonical}
use Rattle.sf_algebra.specs.Vectors.{place_cmp}
use Rattle.sf_algebra.proofs.Terms.Negatives.{IsCanonical-negative}
use Rattle.sf_matrix.proofs.Assembled.{mapped_all}
use Rattle.sf_matrix.proofs.vector.arithmetic.negative_terms.Goals as goal

pub returns-clause-canonical : goal.returns-clause-canonical
returns-clause-canonical c =
    let all =
    mapped_all (negative_term c.args.modulus) c.args.terms.now _ _ c.loop-term-test.false c.loop-term.invariant in
    subst (IsCanonical (place_cmp ones) c.args.modulus) (sym all)
    (IsCanonical-negative (place_cmp ones) c.args.modulus c.args.terms.now c.requires.canonical)
