-- The graph of a matrix M has exactly the vectors (c M, c). (Cox, Little, O'Shea, "Using Algebraic Geometry", chapter 5,
-- section 3.)
use Rattle.std.specs.Prelude.{◌≡◌, ◌↔◌, ◌<◌}
use Rattle.sf_algebra.specs.Matrices.{Matrix, IsMatrix}
use Rattle.sf_algebra.specs.Rings.{IsRing}
use Rattle.sf_algebra.specs.Vectors.{Vector}
use Rattle.sf_groebner.specs.BasisParts.{value_part, coefficient_part}
use Rattle.sf_groebner.specs.GraphRows.{graph_matrix}
use Rattle.sf_groebner.specs.Spans.{InSpan, IsCoefficients, IsGraphVector, combined}

-- for each coefficients c there is a vector (c M, c) of the graph
abbrev pub HasGraphVectors : Type 0
HasGraphVectors =
    (m : Matrix) → IsRing m.ring → IsMatrix m → (c : Vector) → IsCoefficients m c
    → (w : Vector) × IsGraphVector m w × (value_part m w ≡ combined m c) × (coefficient_part m w ≡ c)

-- and no other one
abbrev pub HasOneGraphVector : Type 0
HasOneGraphVector =
    (m : Matrix) (u w : Vector) → IsGraphVector m u → IsGraphVector m w → coefficient_part m u ≡ coefficient_part m w
    → u ≡ w

-- and each vector of the graph is one for its coefficients
abbrev pub HasCoefficients : Type 0
HasCoefficients =
    (m : Matrix) (w : Vector) → IsGraphVector m w
    → IsCoefficients m (coefficient_part m w) × (value_part m w ≡ combined m (coefficient_part m w))

-- the graph is the span of the rows, each with the unit vector of its position behind it
abbrev pub IsSpanOfGraphRows : Type 0
IsSpanOfGraphRows =
    (m : Matrix) → IsRing m.ring → 1 < m.ring.modulus → IsMatrix m → (w : Vector) → IsGraphVector m w ↔ InSpan (graph_matrix m) w
