use Rattle.std.proofs.Common.{◌≡◌, map, take}
use Rattle.sf_algebra.specs.Monomials.{product}
use Rattle.sf_algebra.specs.Multiples.{term_product}
use Rattle.sf_poly.proofs.products.multiple_of_terms.Given as goal

abbrev pub invariant-loop-term : goal.invariant-loop-term
invariant-loop-term l = l.products.items ≡ map (term_product product l.modulus l.factor) (take l.term-index l.terms)
