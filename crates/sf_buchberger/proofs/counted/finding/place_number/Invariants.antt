use Rattle.std.proofs.Common.{◌-◌, ◌≤◌, length}
use Rattle.sf_buchberger.proofs.counted.finding.place_number.Given as goal

abbrev pub invariant-loop-low : goal.invariant-loop-low
invariant-loop-low l = l.high ≤ length l.columns

abbrev pub decreases-loop-low : goal.decreases-loop-low
decreases-loop-low l = l.high - l.low
