-- What holds of lifts and of coordinates. (Textbook; the choice is this project's own.)
use Rattle.std.specs.Prelude.{◌≡◌, ◌↔◌, List, length}
use Rattle.sf_algebra.specs.Matrices.{Matrix, IsMatrix}
use Rattle.sf_algebra.specs.MatrixOperations.{part_terms, stacked, vector_part}
use Rattle.sf_algebra.specs.Rings.{IsRing, IsOverField}
use Rattle.sf_algebra.specs.VectorOperations.{vector_difference}
use Rattle.sf_algebra.specs.Vectors.{Vector, IsVector}
use Rattle.sf_groebner.specs.Cuts.{IsFirstBlock}
use Rattle.sf_groebner.specs.Lifts.{IsLift}
use Rattle.sf_groebner.specs.Presentations.{IsRelation, IsReducedByRelations, AreRelationsModulo}
use Rattle.sf_groebner.specs.ReducedBases.{IsReducedBy, IsReducedBasis}
use Rattle.sf_groebner.specs.Spans.{InSpan}

-- a vector has at most one lift
abbrev pub HasOneLift : Type 0
HasOneLift = (m : Matrix) → IsRing m.ring → (v c d : Vector) → IsLift m v c → IsLift m v d → c ≡ d

-- the first block of a lift over a stack is reduced by the first blocks of the syzygies
abbrev pub HasReducedFirstBlocks : Type 0
HasReducedFirstBlocks =
    (a b : Matrix) → IsRing a.ring → (v c : Vector) → IsLift
    (stacked a b) v c → (basis : List Vector) → IsReducedBasis a.ring.weights (IsFirstBlock a b) basis
    → IsReducedBy basis (part_terms 0 (length a.rows) c.terms)

-- relations that are minimal modulo 0 span all relations
abbrev pub HasSpanningRelations : Type 0
HasSpanningRelations =
    (generators base relations : Matrix) → IsOverField generators.ring → AreRelationsModulo generators base relations
    → (c : Vector) → IsRelation generators (InSpan base) c ↔ InSpan relations c

-- the first block of a lift over generators and base, the coordinates, is reduced by such relations
abbrev pub HasReducedCoordinates : Type 0
HasReducedCoordinates =
    (generators base relations : Matrix) → IsOverField generators.ring → AreRelationsModulo generators base relations
    → (v c : Vector) → IsLift (stacked generators base) v c
    → IsReducedByRelations relations (vector_part 0 (length generators.rows) c)

-- vectors of one degree that are reduced by relations and differ by one of their span are equal
abbrev pub HasOneReducedVector : Type 0
HasOneReducedVector =
    (m : Matrix) → IsRing m.ring → IsMatrix m → (v w : Vector) → IsVector m.ring m.target v → IsVector m.ring m.target w → v.degree ≡ w.degree
    → InSpan m (vector_difference m.ring v w)
    → IsReducedByRelations m v → IsReducedByRelations m w → v ≡ w
