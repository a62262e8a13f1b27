use Rattle.std.proofs.Common.{◌≡◌, ℕ, ◌-◌, ◌<◌, ◌≤◌, length}
use Rattle.sf_algebra.specs.Rings.{ones}
use Rattle.sf_variables.specs.Columns.{AreFalling}
use Rattle.sf_dense.specs.Entries.{column_at}
use Rattle.sf_dense.proofs.entries.place_from.Given as goal

-- where the place is one of those from the number on, it is between the two ends
abbrev pub invariant-loop-low : goal.invariant-loop-low
invariant-loop-low l = record {
  begun : l.from ≤ l.low;
  within : l.high ≤ length l.columns;
  found : AreFalling ones l.columns → (i : ℕ) → l.from ≤ i → i < length l.columns → column_at l.columns i ≡ l.place
      → (l.low ≤ i) × (i < l.high);
}

abbrev pub decreases-loop-low : goal.decreases-loop-low
decreases-loop-low l = l.high - l.low
