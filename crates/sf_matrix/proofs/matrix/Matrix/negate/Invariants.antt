use Rattle.std.proofs.Common.{◌≡◌, map, take}
use Rattle.sf_algebra.specs.Multiples.{negative}
use Rattle.sf_algebra.specs.Vectors.{Vector}
use Rattle.sf_matrix.proofs.matrix.Matrix.negate.Given as goal

abbrev pub invariant-loop-row : goal.invariant-loop-row
invariant-loop-row l =
    l.rows.items ≡ map (λ (v : Vector). record { degree = v.degree; terms = negative l.self.ring.modulus v.terms })
    (take l.row-index l.self.rows)
