use Rattle.std.proofs.Common.{take, ◌<ℤ◌}
use Rattle.std.specs.List.{AllByRecursion}
use Rattle.sf_algebra.specs.Vectors.{Vector}
use Rattle.sf_buchberger.proofs.counted.state.Counting.is_below.Given as goal

abbrev pub invariant-loop-i : goal.invariant-loop-i
invariant-loop-i l = AllByRecursion (λ (v : Vector). v.degree <ℤ l.degree) (take l.i l.self.rows.rows)
