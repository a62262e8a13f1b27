use Rattle.std.proofs.Common.{◌≡◌, map, take, length}
use Rattle.std.specs.List.{flat_map}
use Rattle.sf_algebra.specs.Vectors.{Vector}
use Rattle.sf_matrix.specs.Places.{kronecker_vector}
use Rattle.sf_matrix.proofs.matrix.Matrix.kron.Given as goal

abbrev pub invariant-loop-left : goal.invariant-loop-left
invariant-loop-left l =
    l.rows.items ≡ flat_map (λ (v : Vector). map (kronecker_vector l.self.ring (length l.other.target) v) l.other.rows)
    (take l.left-index l.self.rows)
