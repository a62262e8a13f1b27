use Rattle.std.proofs.Common.{◌≡◌, ℕ, ◌<◌, length, false}
use Rattle.sf_algebra.specs.Matrices.{row_degrees}
use Rattle.sf_algebra.specs.Vectors.{generator_degree}
use Rattle.sf_minimal.specs.Steps.{is_taken}
use Rattle.sf_minimal.proofs.degrees.has_free_row.Given as goal

abbrev pub invariant-loop-i : goal.invariant-loop-i
invariant-loop-i l = (k : ℕ) → k < l.i → l.degree ≡ generator_degree (row_degrees l.m) k
    → is_taken l.taken (length l.m.rows) k ≡ false → ⊥
