use Rattle.std.proofs.Common.{◌≡◌, map, take, neg_ℤ}
use Rattle.sf_algebra.specs.Vectors.{Vector}
use Rattle.sf_matrix.proofs.matrix.transpose.negative_degrees.Given as goal

abbrev pub invariant-loop-row : goal.invariant-loop-row
invariant-loop-row l = l.degrees ≡ map neg_ℤ (map (λ (v : Vector). v.degree) (take l.row-index l.rows))
