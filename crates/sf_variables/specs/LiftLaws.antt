-- Coefficients, lifts, coordinates, rests and reduced vectors of vectors over n variables may be taken over n variables,
-- or are. (Textbook: a ring of polynomials is free over one in fewer variables.)
use Rattle.std.specs.Prelude.{◌≡◌, ℕ, List, length}
use Rattle.sf_algebra.specs.Matrices.{Matrix, IsMatrix}
use Rattle.sf_algebra.specs.MatrixOperations.{stacked, vector_part}
use Rattle.sf_algebra.specs.Rings.{IsRing}
use Rattle.sf_algebra.specs.VectorOperations.{vector_difference}
use Rattle.sf_algebra.specs.Vectors.{Vector, IsVector}
use Rattle.sf_groebner.specs.Divisions.{IsDivision}
use Rattle.sf_groebner.specs.Lifts.{IsLift}
use Rattle.sf_groebner.specs.Presentations.{IsReducedByRelations}
use Rattle.sf_groebner.specs.ReducedBases.{IsSpanBasis}
use Rattle.sf_groebner.specs.Spans.{IsCoefficients, combined, InSpan}
use Rattle.sf_variables.specs.Variables.{IsMatrixInVariables, IsVectorInVariables}

-- a vector in the span of a matrix has coefficients over n variables
abbrev pub HasCoefficientsInVariables : Type 0
HasCoefficientsInVariables =
    (n : ℕ) (m : Matrix) → IsRing m.ring → IsMatrixInVariables n m → (v : Vector) → IsVectorInVariables n v
    → InSpan m v → (c : Vector) × IsCoefficients m c × IsVectorInVariables n c × (combined m c ≡ v)

-- a lift is over n variables
abbrev pub HasLiftsInVariables : Type 0
HasLiftsInVariables =
    (n : ℕ) (m : Matrix) → IsRing m.ring → IsMatrixInVariables n m → (v c : Vector) → IsVectorInVariables n v
    → IsLift m v c → IsVectorInVariables n c

-- so are coordinates, the first block of a lift over generators and a base
abbrev pub HasCoordinatesInVariables : Type 0
HasCoordinatesInVariables =
    (n : ℕ) (generators base : Matrix) → IsRing generators.ring → IsMatrixInVariables n generators
    → IsMatrixInVariables n base
    → (v c : Vector) → IsVectorInVariables n v → IsLift (stacked generators base) v c
    → IsVectorInVariables n (vector_part 0 (length generators.rows) c)

-- the rest of a division by the reduced basis of a span
abbrev pub HasRestsInVariables : Type 0
HasRestsInVariables =
    (n : ℕ) (m : Matrix) → IsRing m.ring → IsMatrix m → IsMatrixInVariables n m → (basis : List Vector)
    → IsSpanBasis m basis
    → (v rest quotients : Vector) → IsVectorInVariables n v → IsDivision m.ring m.target basis v rest quotients
    → IsVectorInVariables n rest

-- a vector that is reduced by relations and differs by one of their span from one over n variables
abbrev pub HasReducedVectorsInVariables : Type 0
HasReducedVectorsInVariables =
    (n : ℕ) (m : Matrix) → IsRing m.ring → IsMatrixInVariables n m → (v w : Vector) → IsVectorInVariables n v
    → IsVector m.ring m.target w → v.degree ≡ w.degree
    → InSpan m (vector_difference m.ring v w)
    → IsReducedByRelations m w → IsVectorInVariables n w
