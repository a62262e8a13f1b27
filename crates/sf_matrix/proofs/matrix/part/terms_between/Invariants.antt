use Rattle.std.proofs.Common.{◌≡◌, take}
use Rattle.sf_algebra.specs.MatrixOperations.{part_terms}
use Rattle.sf_matrix.proofs.matrix.part.terms_between.Given as goal

abbrev pub invariant-loop-term : goal.invariant-loop-term
invariant-loop-term l = l.between.items ≡ part_terms l.from l.to (take l.term-index l.terms)
