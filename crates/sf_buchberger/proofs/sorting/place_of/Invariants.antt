use Rattle.std.proofs.Common.{◌≡◌, ◌++◌, take, drop}
use Rattle.sf_algebra.specs.Rings.{ones}
use Rattle.sf_groebner.proofs.Constructions.SortedRows.{insert_row}
use Rattle.sf_buchberger.proofs.sorting.place_of.Given as goal

abbrev pub invariant-loop-place : goal.invariant-loop-place
invariant-loop-place l =
    take l.place l.sorted ++ insert_row ones l.row (drop l.place l.sorted) ≡ insert_row ones l.row l.sorted
