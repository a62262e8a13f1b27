use Rattle.std.proofs.Common.{◌++◌, take}
use Rattle.sf_algebra.specs.Bounds.{AreFrom}
use Rattle.sf_algebra.specs.Matrices.{degrees_of, row_degrees}
use Rattle.sf_matrix.proofs.sizes.degree_range.Given as goal

abbrev pub invariant-loop-i : goal.invariant-loop-i
invariant-loop-i l = AreFrom l.low l.high (degrees_of (take l.i l.m.rows))

abbrev pub invariant-loop-degree : goal.invariant-loop-degree
invariant-loop-degree l = AreFrom l.low l.high (row_degrees l.m ++ take l.degree-index l.m.target)
