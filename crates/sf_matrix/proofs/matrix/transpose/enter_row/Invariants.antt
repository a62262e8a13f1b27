use Rattle.std.proofs.Common.{◌≡◌, take}
use Rattle.sf_matrix.specs.Columns.{entered}
use Rattle.sf_matrix.proofs.matrix.transpose.enter_row.Given as goal

abbrev pub invariant-loop-term : goal.invariant-loop-term
invariant-loop-term l = l.columns.items ≡ entered l.i (take l.term-index l.terms) 0 l.fn.columns.items
