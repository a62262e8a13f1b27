use Rattle.std.proofs.Common.{◌≡◌, length}
use Rattle.sf_algebra.specs.Rings.{ones}
use Rattle.sf_groebner.proofs.Constructions.SortedRows.{sort_rows}
use Rattle.sf_buchberger.proofs.Insertions.{sort_onto}
use Rattle.sf_buchberger.proofs.sorting.sorted_rows.Given as goal

abbrev pub invariant-loop-row : goal.invariant-loop-row
invariant-loop-row l = sort_onto ones l.rows.items l.sorted.items ≡ sort_rows ones l.fn.rows.items

abbrev pub decreases-loop-row : goal.decreases-loop-row
decreases-loop-row l = length l.rows.items
