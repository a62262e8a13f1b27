-- What each graded matrix has modulo a prime: reduced bases, one answer for each limit, rests of divisions, and lifts.
-- (Cox, Little, O'Shea, "Using Algebraic Geometry", chapter 5, sections 2 and 3.)
use Rattle.std.specs.Prelude.{◌≡◌, ◌↔◌, ℕ, List, [], Option}
use Rattle.std.specs.List.{AllByRecursion}
use Rattle.sf_algebra.specs.Matrices.{Matrix, IsMatrix}
use Rattle.sf_algebra.specs.Rings.{IsRing, IsOverField}
use Rattle.sf_algebra.specs.VectorOperations.{vector_difference}
use Rattle.sf_algebra.specs.Vectors.{Vector, IsVector}
use Rattle.sf_groebner.specs.Criterion.{IsMonicRow}
use Rattle.sf_groebner.specs.Divisions.{IsDivision}
use Rattle.sf_groebner.specs.Lifts.{IsLift}
use Rattle.sf_groebner.specs.Presentations.{IsReducedByRelations}
use Rattle.sf_groebner.specs.ReducedBases.{IsSpanBasis, IsSyzygyBasis, IsGraphBasis}
use Rattle.sf_groebner.specs.Small.{IsAnswer}
use Rattle.sf_groebner.specs.Spans.{InSpan}

-- the graph has a reduced basis
abbrev pub HasGraphBasis : Type 0
HasGraphBasis = (m : Matrix) → IsOverField m.ring → IsMatrix m → (basis : List Vector) × IsGraphBasis m basis

-- the span has one
abbrev pub HasSpanBasis : Type 0
HasSpanBasis = (m : Matrix) → IsOverField m.ring → IsMatrix m → (basis : List Vector) × IsSpanBasis m basis

-- the syzygies have one
abbrev pub HasSyzygyBasis : Type 0
HasSyzygyBasis = (m : Matrix) → IsOverField m.ring → IsMatrix m → (basis : List Vector) × IsSyzygyBasis m basis

-- there is an answer
abbrev pub HasAnswer : Type 0
HasAnswer =
    (limit : ℕ) (m : Matrix) → IsOverField m.ring → IsMatrix m → (answer : Option (List Vector)) × IsAnswer limit m answer

-- and no other one
abbrev pub HasNoOtherAnswer : Type 0
HasNoOtherAnswer =
    (limit : ℕ) (m : Matrix) → IsRing m.ring → (a b : Option (List Vector)) → IsAnswer limit m a → IsAnswer limit m b → a ≡ b

-- a vector has a division by monic rows
abbrev pub HasDivisions : Type 0
HasDivisions =
    (m : Matrix) → IsOverField m.ring → IsMatrix m → AllByRecursion (IsMonicRow m.ring) m.rows → (v : Vector) → IsVector m.ring m.target v
    → (rest : Vector) × (quotients : Vector) × IsDivision m.ring m.target m.rows v rest quotients

-- so it has one by the reduced basis of a span
abbrev pub HasDivisionsByBases : Type 0
HasDivisionsByBases =
    (m : Matrix) → IsOverField m.ring → IsMatrix m → (basis : List Vector) → IsSpanBasis m basis → (v : Vector) → IsVector m.ring m.target v
    → (rest : Vector) × (quotients : Vector) × IsDivision m.ring m.target basis v rest quotients

-- two divisions by it leave one rest
abbrev pub HasOneRest : Type 0
HasOneRest =
    (m : Matrix) → IsRing m.ring → IsMatrix m → (basis : List Vector) → IsSpanBasis m basis
    → (v : Vector) → IsVector m.ring m.target v → (rest quotients other others : Vector)
    → IsDivision m.ring m.target basis v rest quotients → IsDivision m.ring m.target basis v other others → rest ≡ other

-- the rest is none exactly where the vector is in the span
abbrev pub HasRestInside : Type 0
HasRestInside =
    (m : Matrix) → IsRing m.ring → IsMatrix m → (basis : List Vector) → IsSpanBasis m basis
    → (v : Vector) → IsVector m.ring m.target v → (rest quotients : Vector)
    → IsDivision m.ring m.target basis v rest quotients → rest.terms ≡ [] ↔ InSpan m v

-- a vector differs by one of the span from one that is reduced by the relations
abbrev pub HasReducedVector : Type 0
HasReducedVector =
    (m : Matrix) → IsOverField m.ring → IsMatrix m → (v : Vector) → IsVector m.ring m.target v
    → (w : Vector) × IsVector m.ring m.target w × (w.degree ≡ v.degree)
    × InSpan m (vector_difference m.ring v w) × IsReducedByRelations m w

-- a vector of the span has a lift
abbrev pub HasLifts : Type 0
HasLifts = (m : Matrix) → IsOverField m.ring → IsMatrix m → (v : Vector) → InSpan m v → (c : Vector) × IsLift m v c
