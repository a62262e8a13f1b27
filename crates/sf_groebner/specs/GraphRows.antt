-- The rows that span the graph of a matrix. (Cox, Little, O'Shea, "Using Algebraic Geometry", chapter 5, section 3.)
use Rattle.std.specs.Prelude.{ℕ, suc, List, [], ◌∷◌, ◌++◌, length}
use Rattle.sf_algebra.specs.Matrices.{Matrix}
use Rattle.sf_algebra.specs.MatrixOperations.{unit_vector}
use Rattle.sf_algebra.specs.Vectors.{Vector}
use Rattle.sf_groebner.specs.MinimalGenerators.{matrix_of}
use Rattle.sf_groebner.specs.Spans.{graph_degrees}

-- each vector with a unit vector behind it, the first of which stands at position i
unfoldable pub with_units : ℕ → List Vector → List Vector
with_units i [] = []
with_units i (v ∷ vs) =
    record { degree = v.degree; terms = v.terms ++ (unit_vector v.degree i).terms } ∷ with_units (suc i) vs

-- the matrix over the graph's free module, whose rows are those of m, each with the unit vector of its position behind it
abbrev pub graph_matrix : Matrix → Matrix
graph_matrix m = matrix_of m.ring (graph_degrees m) (with_units (length m.target) m.rows)
