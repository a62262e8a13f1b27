use Rattle.std.proofs.Common.{ℕ, ◌<◌, ◌≤◌, get_or}
use Rattle.sf_dense.proofs.cells.greatest.Given as goal

-- no sum so far is greater, and each bound of all sums is one of this
abbrev pub invariant-loop-sum : goal.invariant-loop-sum
invariant-loop-sum l = record {
  bound : (k : ℕ) → k < l.sum-index → get_or l.sums k 0 ≤ l.greatest;
  least : (n : ℕ) → ((k : ℕ) → get_or l.sums k 0 ≤ n) → l.greatest ≤ n;
}
