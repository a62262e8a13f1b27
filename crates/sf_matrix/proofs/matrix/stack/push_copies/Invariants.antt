use Rattle.std.proofs.Common.{◌≡◌, ◌++◌, take}
use Rattle.sf_matrix.proofs.matrix.stack.push_copies.Given as goal

abbrev pub invariant-loop-vector : goal.invariant-loop-vector
invariant-loop-vector l = l.rows.items ≡ l.fn.rows.items ++ take l.vector-index l.vectors
