use Rattle.std.proofs.Common.{◌≡◌, take}
use Rattle.sf_algebra.specs.Matrices.{degrees_of}
use Rattle.sf_matrix.proofs.matrix.Matrix.row_module.Given as goal

abbrev pub invariant-loop-i : goal.invariant-loop-i
invariant-loop-i l = l.degrees ≡ degrees_of (take l.i l.self.rows)
