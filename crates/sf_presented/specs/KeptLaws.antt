-- What holds of facts that are kept: there is one proof of a lift; mere facts tell what they are of, and modulo a prime
-- they give the facts back. (This project's own.)
use Rattle.std.specs.Prelude.{◌≡◌, List, length}
use Rattle.sf_algebra.specs.Matrices.{Matrix, IsMatrix}
use Rattle.sf_algebra.specs.MatrixOperations.{stacked}
use Rattle.sf_algebra.specs.Rings.{IsRing, IsOverField}
use Rattle.sf_algebra.specs.Vectors.{Vector, IsCanonicalRow}
use Rattle.sf_groebner.specs.Homology.{ComplexPlace, IsComplexPlace, IsHomology, IsKernel, IsImage, IsCokernel}
use Rattle.sf_groebner.specs.Lifts.{IsLift}
use Rattle.sf_groebner.specs.MinimalGenerators.{AreMinimal}
use Rattle.sf_groebner.specs.Presentations.{IsZero, IsRelation, IsModuleMap, IsReducedByRelations, AreRelationsModulo}
use Rattle.sf_groebner.specs.ReducedBases.{IsSpanBasis}
use Rattle.sf_groebner.specs.Resolutions.{IsFirstStep, IsNextStep, IsResolution}
use Rattle.sf_groebner.specs.Spans.{InSpan}
use Rattle.sf_presented.specs.Coordinates.{AreCoordinates}
use Rattle.sf_presented.specs.Inverses.{AreInverseModulo}
use Rattle.sf_presented.specs.KeptFacts.{Merely}

-- that coefficients are a lift has one proof at most
abbrev pub HasOneProofOfLift : Type 0
HasOneProofOfLift = (m : Matrix) → IsRing m.ring → (v c : Vector) → IsProp (IsLift m v c)

-- a span has at most one list that is merely its reduced basis
abbrev pub HasOneMereSpanBasis : Type 0
HasOneMereSpanBasis =
    (m : Matrix) → IsRing m.ring → IsMatrix m → (a b : List Vector) → Merely (IsSpanBasis m a)
    → Merely (IsSpanBasis m b) → a ≡ b

-- modulo a span it has at most one list of minimal generators
abbrev pub HasOneMereMinimalSpan : Type 0
HasOneMereMinimalSpan =
    (m base : Matrix) → IsRing m.ring → IsMatrix m → (a b : List Vector)
    → Merely (AreMinimal m.ring (InSpan m) (InSpan base) a) → Merely (AreMinimal m.ring (InSpan m) (InSpan base) b)
    → a ≡ b

-- and so have the relations of vectors modulo a span, modulo 0
abbrev pub HasOneMereMinimalRelations : Type 0
HasOneMereMinimalRelations =
    (m base : Matrix) → IsRing m.ring → m.ring ≡ base.ring → IsMatrix base → (a b : List Vector)
    → Merely (AreMinimal m.ring (IsRelation m (InSpan base)) IsZero a)
    → Merely (AreMinimal m.ring (IsRelation m (InSpan base)) IsZero b) → a ≡ b

abbrev pub HasOneMereHomology : Type 0
HasOneMereHomology =
    (place : ComplexPlace) → IsRing place.here.ring → place.arriving.ring ≡ place.here.ring
    → place.out.ring ≡ place.here.ring → place.beyond.ring ≡ place.here.ring
    → IsMatrix (stacked place.arriving place.here) → IsMatrix place.beyond → (g r h s : Matrix)
    → Merely (IsHomology place g r) → Merely (IsHomology place h s) → (g ≡ h) × (r ≡ s)

abbrev pub HasOneMereKernel : Type 0
HasOneMereKernel =
    (source target map : Matrix) → IsRing source.ring → map.ring ≡ source.ring → target.ring ≡ source.ring
    → IsMatrix source → IsMatrix target → (g r h s : Matrix) → Merely (IsKernel source target map g r)
    → Merely (IsKernel source target map h s) → (g ≡ h) × (r ≡ s)

abbrev pub HasOneMereImage : Type 0
HasOneMereImage =
    (target map : Matrix) → IsRing target.ring → map.ring ≡ target.ring → IsMatrix (stacked map target)
    → IsMatrix target → (g r h s : Matrix) → Merely (IsImage target map g r) → Merely (IsImage target map h s)
    → (g ≡ h) × (r ≡ s)

abbrev pub HasOneMereCokernel : Type 0
HasOneMereCokernel =
    (target map : Matrix) → IsRing target.ring → map.ring ≡ target.ring → IsMatrix (stacked map target)
    → (g r h s : Matrix) → Merely (IsCokernel target map g r) → Merely (IsCokernel target map h s) → (g ≡ h) × (r ≡ s)

-- relations have at most one matrix that is merely the first step of their resolution
abbrev pub HasOneMereFirstStep : Type 0
HasOneMereFirstStep =
    (relations : Matrix) → IsRing relations.ring → IsMatrix relations → (a b : Matrix)
    → Merely (IsFirstStep relations a) → Merely (IsFirstStep relations b) → a ≡ b

-- a step has at most one that merely comes next
abbrev pub HasOneMereNextStep : Type 0
HasOneMereNextStep =
    (before : Matrix) → IsRing before.ring → (a b : Matrix) → Merely (IsNextStep before a)
    → Merely (IsNextStep before b) → a ≡ b

abbrev pub HasOneMereResolution : Type 0
HasOneMereResolution =
    (relations : Matrix) → IsRing relations.ring → IsMatrix relations → (a b : List Matrix) → length a ≡ length b
    → Merely (IsResolution relations a) → Merely (IsResolution relations b) → a ≡ b

abbrev pub HasOneListOfMereCoordinates : Type 0
HasOneListOfMereCoordinates =
    (generators base relations : Matrix) → IsOverField generators.ring → AreRelationsModulo generators base relations
    → (v : Vector) → IsCanonicalRow generators.ring v.terms → (c d : Vector)
    → Merely (AreCoordinates generators base relations v c) → Merely (AreCoordinates generators base relations v d)
    → c ≡ d

-- modulo a prime what is merely a reduced basis of a span is one
abbrev pub KeepsSpanBasis : Type 0
KeepsSpanBasis =
    (m : Matrix) → IsOverField m.ring → IsMatrix m → (basis : List Vector) → Merely (IsSpanBasis m basis)
    → IsSpanBasis m basis

-- and so with minimal generators of a span modulo a span, and of relations modulo 0
abbrev pub KeepsMinimalSpan : Type 0
KeepsMinimalSpan =
    (m base : Matrix) → IsOverField m.ring → base.ring ≡ m.ring → base.target ≡ m.target → IsMatrix m → IsMatrix base
    → (generators : List Vector) → Merely (AreMinimal m.ring (InSpan m) (InSpan base) generators)
    → AreMinimal m.ring (InSpan m) (InSpan base) generators

abbrev pub KeepsMinimalRelations : Type 0
KeepsMinimalRelations =
    (m base : Matrix) → IsOverField m.ring → m.ring ≡ base.ring → m.target ≡ base.target → IsMatrix m → IsMatrix base
    → (generators : List Vector) → Merely (AreMinimal m.ring (IsRelation m (InSpan base)) IsZero generators)
    → AreMinimal m.ring (IsRelation m (InSpan base)) IsZero generators

-- and so with homology, kernels, images and cokernels
abbrev pub KeepsHomology : Type 0
KeepsHomology =
    (place : ComplexPlace) → IsOverField place.here.ring → IsComplexPlace place → (g r : Matrix)
    → Merely (IsHomology place g r) → IsHomology place g r

abbrev pub KeepsKernel : Type 0
KeepsKernel =
    (source target map : Matrix) → IsOverField source.ring → IsMatrix source → IsMatrix target
    → IsModuleMap source target map → (g r : Matrix) → Merely (IsKernel source target map g r)
    → IsKernel source target map g r

abbrev pub KeepsImage : Type 0
KeepsImage =
    (source target map : Matrix) → IsOverField target.ring → IsMatrix target → IsModuleMap source target map
    → (g r : Matrix) → Merely (IsImage target map g r) → IsImage target map g r

abbrev pub KeepsCokernel : Type 0
KeepsCokernel =
    (source target map : Matrix) → IsOverField target.ring → IsMatrix target → IsModuleMap source target map
    → (g r : Matrix) → Merely (IsCokernel target map g r) → IsCokernel target map g r

-- with the steps of resolutions
abbrev pub KeepsFirstStep : Type 0
KeepsFirstStep =
    (relations : Matrix) → IsOverField relations.ring → IsMatrix relations → (step : Matrix)
    → Merely (IsFirstStep relations step) → IsFirstStep relations step

abbrev pub KeepsNextStep : Type 0
KeepsNextStep =
    (before : Matrix) → IsOverField before.ring → IsMatrix before → (step : Matrix) → Merely (IsNextStep before step)
    → IsNextStep before step

abbrev pub KeepsResolution : Type 0
KeepsResolution =
    (relations : Matrix) → IsOverField relations.ring → IsMatrix relations → (steps : List Matrix)
    → Merely (IsResolution relations steps) → IsResolution relations steps

-- with vectors of a span, and those that are reduced by relations
abbrev pub KeepsVectorsOfSpan : Type 0
KeepsVectorsOfSpan = (m : Matrix) → IsOverField m.ring → IsMatrix m → (v : Vector) → Merely (InSpan m v) → InSpan m v

abbrev pub KeepsReducedVectors : Type 0
KeepsReducedVectors =
    (m : Matrix) → IsOverField m.ring → IsMatrix m → (v : Vector) → Merely (IsReducedByRelations m v)
    → IsReducedByRelations m v

-- and with coordinates
abbrev pub KeepsCoordinates : Type 0
KeepsCoordinates =
    (generators base relations : Matrix) → IsOverField generators.ring → AreRelationsModulo generators base relations
    → (v c : Vector) → Merely (AreCoordinates generators base relations v c)
    → AreCoordinates generators base relations v c

-- and with maps of presented modules, and inverse ones
abbrev pub KeepsModuleMaps : Type 0
KeepsModuleMaps =
    (source target map : Matrix) → IsOverField target.ring → IsMatrix target → Merely (IsModuleMap source target map)
    → IsModuleMap source target map

abbrev pub KeepsInverses : Type 0
KeepsInverses =
    (first second to from : Matrix) → IsOverField first.ring → IsMatrix first → IsMatrix second
    → Merely (AreInverseModulo first second to from) → AreInverseModulo first second to from
