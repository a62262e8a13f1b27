use Rattle.std.proofs.Common.{◌≡◌, ◌++◌, drop, []}
use Rattle.sf_matrix.specs.Columns.{column_lists}
use Rattle.sf_matrix.proofs.matrix.transpose.empty_columns.Given as goal

abbrev pub invariant-loop : goal.invariant-loop
invariant-loop l = l.columns.items ++ column_lists [] l.index (drop l.index l.degrees) ≡ column_lists [] 0 l.degrees
