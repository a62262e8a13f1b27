use Rattle.std.proofs.Common.{◌≡◌, ℕ, ◌+◌, ◌*◌, ◌^◌, ◌≤◌, drop, get_or}
use Rattle.sf_dense.specs.Entries.{added}
use Rattle.sf_dense.proofs.cells.add_entries.Given as goal

-- the entries that are left lead to the same sums, and each sum has grown by less than 2^32 for each entry so far
abbrev pub invariant-loop-entry : goal.invariant-loop-entry
invariant-loop-entry l = record {
  added : added l.fn.factor l.sums (drop l.entry-index l.entries) ≡ added l.fn.factor l.fn.sums l.entries;
  raised : (k : ℕ) → get_or l.sums k 0 ≤ get_or l.fn.sums k 0 + l.entry-index * 2 ^ 32;
}
