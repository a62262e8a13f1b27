-- What holds of coordinates. (Textbook; the choice of the coordinates is this project's own.)
use Rattle.std.specs.Prelude.{◌≡◌, ◌↔◌, length}
use Rattle.std.specs.List.{AllByRecursion}
use Rattle.sf_algebra.specs.Matrices.{Matrix, IsMatrix}
use Rattle.sf_algebra.specs.MatrixOperations.{stacked, vector_part}
use Rattle.sf_algebra.specs.Rings.{IsOverField}
use Rattle.sf_algebra.specs.Vectors.{Vector, IsCanonicalRow}
use Rattle.sf_groebner.specs.Homology.{ComplexPlace, IsComplexPlace, IsAny, IsCycle, IsHomology, IsKernel, IsImage, IsCokernel}
use Rattle.sf_groebner.specs.Lifts.{IsLift}
use Rattle.sf_groebner.specs.Presentations.{AreRelationsModulo, IsModuleMap}
use Rattle.sf_groebner.specs.Spans.{InSpan}
use Rattle.sf_presented.specs.Coordinates.{AreCoordinates, IsDescription}

-- the vectors with coordinates are those of the span of generators and base
abbrev pub HasCoordinates : Type 0
HasCoordinates =
    (generators base relations : Matrix) → IsOverField generators.ring → AreRelationsModulo generators base relations
    → (v : Vector) → IsCanonicalRow generators.ring v.terms
    → ((c : Vector) × AreCoordinates generators base relations v c) ↔ InSpan (stacked generators base) v

-- a vector has no others
abbrev pub HasOneListOfCoordinates : Type 0
HasOneListOfCoordinates =
    (generators base relations : Matrix) → IsOverField generators.ring → AreRelationsModulo generators base relations
    → (v : Vector) → IsCanonicalRow generators.ring v.terms → (c d : Vector)
    → AreCoordinates generators base relations v c → AreCoordinates generators base relations v d → c ≡ d

-- the first block of a lift over generators and base is them
abbrev pub HasCoordinatesOfLifts : Type 0
HasCoordinatesOfLifts =
    (generators base relations : Matrix) → IsOverField generators.ring → AreRelationsModulo generators base relations
    → (v c : Vector) → IsLift (stacked generators base) v c
    → AreCoordinates generators base relations v (vector_part 0 (length generators.rows) c)

-- the relations of a kernel are those of its generators modulo the relations of the source, and each cycle has
-- coordinates in the generators
abbrev pub HasCoordinatesInKernel : Type 0
HasCoordinatesInKernel =
    (source target map : Matrix) → IsOverField source.ring → IsMatrix source → IsMatrix target
    → IsModuleMap source target map → (g r : Matrix) → IsKernel source target map g r
    → AreRelationsModulo g source r
    × ((v : Vector) → IsCycle map target v → (c : Vector) × AreCoordinates g source r v c)

-- so with an image and the vectors of the span of map and relations
abbrev pub HasCoordinatesInImage : Type 0
HasCoordinatesInImage =
    (source target map : Matrix) → IsOverField target.ring → IsMatrix target → IsModuleMap source target map
    → (g r : Matrix) → IsImage target map g r
    → AreRelationsModulo g target r
    × ((v : Vector) → InSpan (stacked map target) v → (c : Vector) × AreCoordinates g target r v c)

-- with a cokernel and all vectors
abbrev pub HasCoordinatesInCokernel : Type 0
HasCoordinatesInCokernel =
    (source target map : Matrix) → IsOverField target.ring → IsMatrix target → IsModuleMap source target map
    → (g r : Matrix) → IsCokernel target map g r
    → AreRelationsModulo g (stacked map target) r
    × ((v : Vector) → IsAny target.ring target.target v → (c : Vector) × AreCoordinates g (stacked map target) r v c)

-- and with a homology and the cycles at its place
abbrev pub HasCoordinatesInHomology : Type 0
HasCoordinatesInHomology =
    (place : ComplexPlace) → IsOverField place.here.ring → IsComplexPlace place → (g r : Matrix) → IsHomology place g r
    → AreRelationsModulo g (stacked place.arriving place.here) r
    × ((v : Vector) → IsCycle place.out place.beyond v → (c : Vector) × AreCoordinates g (stacked place.arriving place.here) r v c)

-- vectors of the span of generators and base have a description
abbrev pub HasDescription : Type 0
HasDescription =
    (generators base relations described : Matrix) → IsOverField generators.ring
    → AreRelationsModulo generators base relations → AllByRecursion (InSpan (stacked generators base)) described.rows
    → (m : Matrix) × IsDescription generators base relations described m

-- canonical vectors have one
abbrev pub HasOneDescription : Type 0
HasOneDescription =
    (generators base relations described : Matrix) → IsOverField generators.ring
    → AreRelationsModulo generators base relations
    → AllByRecursion (λ (v : Vector). IsCanonicalRow generators.ring v.terms) described.rows → (m n : Matrix)
    → IsDescription generators base relations described m → IsDescription generators base relations described n → m ≡ n
