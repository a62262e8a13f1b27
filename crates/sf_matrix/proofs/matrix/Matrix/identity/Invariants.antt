use Rattle.std.proofs.Common.{◌≡◌, ◌++◌, drop}
use Rattle.sf_algebra.specs.MatrixOperations.{unit_rows}
use Rattle.sf_matrix.proofs.matrix.Matrix.identity.Given as goal

abbrev pub invariant-loop-position : goal.invariant-loop-position
invariant-loop-position l = l.rows.items ++ unit_rows l.position (drop l.position l.degrees) ≡ unit_rows 0 l.degrees
