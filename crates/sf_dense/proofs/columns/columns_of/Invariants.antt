use Rattle.std.proofs.Common.{◌≤◌, length, take}
use Rattle.sf_algebra.specs.Rings.{ones}
use Rattle.sf_variables.specs.Columns.{AreColumns}
use Rattle.sf_dense.proofs.columns.columns_of.Given as goal

abbrev pub invariant-loop-i : goal.invariant-loop-i
invariant-loop-i l =
    AreColumns ones l.variables (take l.i l.target.degrees) l.degree l.places.items × (length l.places.items ≤ l.most)
