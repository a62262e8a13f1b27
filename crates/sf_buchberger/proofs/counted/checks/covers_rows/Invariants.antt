use Rattle.std.proofs.Common.{take}
use Rattle.std.specs.List.{AllByRecursion}
use Rattle.std.specs.Prelude.{Contains}
use Rattle.sf_algebra.specs.Vectors.{Vector}
use Rattle.sf_buchberger.proofs.counted.checks.covers_rows.Given as goal

abbrev pub invariant-loop-i : goal.invariant-loop-i
invariant-loop-i l = AllByRecursion (λ (v : Vector). Contains l.full v.degree) (take l.i l.m.rows)
