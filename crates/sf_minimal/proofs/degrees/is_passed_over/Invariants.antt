use Rattle.std.proofs.Common.{ℕ, ◌<◌}
use Rattle.sf_minimal.specs.Steps.{IsPassedOverFor}
use Rattle.sf_minimal.proofs.degrees.is_passed_over.Given as goal

abbrev pub invariant-loop-r : goal.invariant-loop-r
invariant-loop-r l = (k : ℕ) → k < l.r → IsPassedOverFor l.m.rows l.i l.j k → ⊥
