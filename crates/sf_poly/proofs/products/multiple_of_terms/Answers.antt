use Rattle.sf_poly.proofs.PartProducts.{multiple-taken, IsCanonical-taken}
use Rattle.sf_poly.proofs.products.multiple_of_terms.Goals as goal

pub returns-clause-multiple : goal.returns-clause-multiple
returns-clause-multiple c =
    multiple-taken _ _ c.facts.ensures.prime c.requires.factor _ c.requires.terms _ _ c.loop-term-test.false c.loop-term.invariant

pub returns-clause-canonical : goal.returns-clause-canonical
returns-clause-canonical c =
    IsCanonical-taken _ _ c.facts.ensures.prime c.requires.factor _ c.requires.terms _ _ c.loop-term-test.false c.loop-term.invariant
