-- Sums of graded matrices between two free modules, and the matrix of zeros. (Any textbook of linear algebra.)
use Rattle.std.specs.Prelude.{List, [], ◌∷◌, map, ℤ, ◌≡◌}
use Rattle.sf_algebra.specs.Matrices.{Matrix, row_degrees}
use Rattle.sf_algebra.specs.Rings.{Ring}
use Rattle.sf_algebra.specs.Terms.{Term}
use Rattle.sf_algebra.specs.VectorOperations.{row_sum, row_difference}
use Rattle.sf_algebra.specs.Vectors.{Place, Vector}

-- vectors of the degrees of the first list, the terms of each made of those of the two at its position
abbrev pub row_by_row : (List (Term Place) → List (Term Place) → List (Term Place)) → List Vector → List Vector
    → List Vector
row_by_row f [] vs = []
row_by_row f (u ∷ us) [] = []
row_by_row f (u ∷ us) (v ∷ vs) = record { degree = u.degree; terms = f u.terms v.terms } ∷ row_by_row f us vs

-- a and b go from one free module to one other over one ring
pub record AreParallel (a b : Matrix) : Type 0 where
  pub rings : a.ring ≡ b.ring
  pub targets : a.target ≡ b.target
  pub degrees : row_degrees a ≡ row_degrees b

-- a + b
abbrev pub matrix_sum : Matrix → Matrix → Matrix
matrix_sum a b = record { ring = a.ring; target = a.target; rows = row_by_row (row_sum a.ring) a.rows b.rows }

-- a - b
abbrev pub matrix_difference : Matrix → Matrix → Matrix
matrix_difference a b = record {
  ring = a.ring;
  target = a.target;
  rows = row_by_row (row_difference a.ring) a.rows b.rows;
}

-- 0, from a free module to another
abbrev pub zero_matrix : Ring → List ℤ → List ℤ → Matrix
zero_matrix ring source target = record {
  ring = ring;
  target = target;
  rows = map (λ (d : ℤ). record { degree = d; terms = [] }) source;
}

-- no entry of m is other than 0
abbrev pub IsZeroMatrix : Matrix → Type 0
IsZeroMatrix m = m ≡ zero_matrix m.ring (row_degrees m) m.target
