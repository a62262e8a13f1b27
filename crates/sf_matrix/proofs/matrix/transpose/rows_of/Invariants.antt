use Rattle.sf_matrix.proofs.ColumnVectors.{IsTurning}
use Rattle.sf_matrix.proofs.matrix.transpose.rows_of.Given as goal

abbrev pub invariant-loop-j : goal.invariant-loop-j
invariant-loop-j l = IsTurning l.degrees l.fn.columns.items l.rows.items l.columns.items l.j
