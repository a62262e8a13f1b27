use Rattle.std.proofs.Common.{◌≡◌, map, take}
use Rattle.sf_algebra.specs.MatrixOperations.{row_combination}
use Rattle.sf_algebra.specs.Vectors.{Vector}
use Rattle.sf_matrix.proofs.matrix.Matrix.product.Given as goal

abbrev pub invariant-loop-row : goal.invariant-loop-row
invariant-loop-row l =
    l.rows.items ≡ map (λ (v : Vector). record { degree = v.degree; terms = row_combination l.self.ring l.next.rows v.terms }) (take l.row-index l.self.rows)
