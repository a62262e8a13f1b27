use Rattle.std.proofs.Common.{◌≡◌, ◌%◌, ◌^◌, length, sum_by, take}
use Rattle.sf_algebra.specs.Vectors.{Vector}
use Rattle.algebra_bench.proofs.outcome.Outcome.of_matrix.Given as goal

abbrev pub invariant-loop-i : goal.invariant-loop-i
invariant-loop-i l = l.terms ≡ sum_by (λ (v : Vector). length v.terms) (take l.i l.matrix.rows) % 2 ^ 64
