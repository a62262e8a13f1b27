use Rattle.std.proofs.Common.{◌≡◌, map, take}
use Rattle.sf_algebra.specs.MatrixOperations.{vector_part}
use Rattle.sf_matrix.proofs.matrix.part.rows_between.Given as goal

abbrev pub invariant-loop-row : goal.invariant-loop-row
invariant-loop-row l = l.between.items ≡ map (vector_part l.from l.to) (take l.row-index l.rows)
