use Rattle.std.proofs.Common.{◌≡◌, take}
use Rattle.sf_matrix.specs.Columns.{column_lists}
use Rattle.sf_matrix.proofs.matrix.transpose.columns_of.Given as goal

abbrev pub invariant-loop-i : goal.invariant-loop-i
invariant-loop-i l = l.columns.items ≡ column_lists (take l.i l.rows) 0 l.degrees
