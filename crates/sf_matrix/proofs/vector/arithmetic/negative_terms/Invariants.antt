use Rattle.std.proofs.Common.{◌≡◌, map, take}
use Rattle.sf_algebra.specs.Multiples.{negative_term}
use Rattle.sf_matrix.proofs.vector.arithmetic.negative_terms.Given as goal

abbrev pub invariant-loop-term : goal.invariant-loop-term
invariant-loop-term l = l.negative.items ≡ map (negative_term l.modulus) (take l.term-index l.terms)
