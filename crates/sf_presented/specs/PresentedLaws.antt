-- What kernels, images, cokernels, homology and resolutions are for: they present what they are named for. (Weibel, "An
-- Introduction to Homological Algebra", sections 1.1 and 2.2.)
use Rattle.std.specs.Prelude.{◌≡◌, ◌↔◌, List}
use Rattle.sf_algebra.specs.Matrices.{Matrix, row_degrees, IsMatrix}
use Rattle.sf_algebra.specs.MatrixOperations.{stacked}
use Rattle.sf_algebra.specs.Rings.{IsRing, IsOverField}
use Rattle.sf_algebra.specs.Vectors.{Vector}
use Rattle.sf_groebner.specs.Homology.{ComplexPlace, IsComplexPlace, IsAny, IsCycle, IsHomology, IsKernel, IsImage, IsCokernel}
use Rattle.sf_groebner.specs.MinimalGenerators.{IsInSum}
use Rattle.sf_groebner.specs.Presentations.{IsModuleMap}
use Rattle.sf_groebner.specs.Resolutions.{IsFirstStep, IsNextStep, IsResolution}
use Rattle.sf_groebner.specs.Spans.{InSpan, IsSyzygy}
use Rattle.sf_presented.specs.Presented.{IsPresentedBy, AreExactOver}

-- the cycles of a map, modulo the relations of its source, are presented by its kernel
abbrev pub PresentsKernel : Type 0
PresentsKernel =
    (source target map : Matrix) → IsOverField source.ring → IsMatrix source → IsMatrix target
    → IsModuleMap source target map → (g r : Matrix) → IsKernel source target map g r
    → IsPresentedBy (IsCycle map target) (InSpan source) g r

-- the span of a map and of the relations of its target, modulo these, by its image
abbrev pub PresentsImage : Type 0
PresentsImage =
    (source target map : Matrix) → IsOverField target.ring → IsMatrix target → IsModuleMap source target map
    → (g r : Matrix) → IsImage target map g r → IsPresentedBy (InSpan (stacked map target)) (InSpan target) g r

-- all vectors, modulo the span of both, by its cokernel
abbrev pub PresentsCokernel : Type 0
PresentsCokernel =
    (source target map : Matrix) → IsOverField target.ring → IsMatrix target → IsModuleMap source target map
    → (g r : Matrix) → IsCokernel target map g r
    → IsPresentedBy (IsAny target.ring target.target) (InSpan (stacked map target)) g r

-- the cycles at a place, modulo what arrives and the relations there, by its homology
abbrev pub PresentsHomology : Type 0
PresentsHomology =
    (place : ComplexPlace) → IsOverField place.here.ring → IsComplexPlace place → (g r : Matrix) → IsHomology place g r
    → IsPresentedBy (IsCycle place.out place.beyond) (InSpan (stacked place.arriving place.here)) g r

-- a combination of the generators of a kernel and a vector of the relations of the source have a cycle as their sum
abbrev pub HasSumsInKernel : Type 0
HasSumsInKernel =
    (source target map : Matrix) → IsOverField source.ring → IsMatrix source → IsMatrix target
    → IsModuleMap source target map → (g r : Matrix) → IsKernel source target map g r
    → (v : Vector) → IsInSum g.ring g.rows (InSpan source) v → IsCycle map target v

-- such sums of an image are in the span of map and relations
abbrev pub HasSumsInImage : Type 0
HasSumsInImage =
    (source target map : Matrix) → IsOverField target.ring → IsMatrix target → IsModuleMap source target map
    → (g r : Matrix) → IsImage target map g r
    → (v : Vector) → IsInSum g.ring g.rows (InSpan target) v → InSpan (stacked map target) v

-- and of a homology where what arrives, and the relations there, are cycles
abbrev pub HasSumsInHomology : Type 0
HasSumsInHomology =
    (place : ComplexPlace) → IsOverField place.here.ring → IsComplexPlace place
    → ((v : Vector) → InSpan (stacked place.arriving place.here) v → IsCycle place.out place.beyond v)
    → (g r : Matrix) → IsHomology place g r
    → (v : Vector) → IsInSum g.ring g.rows (InSpan (stacked place.arriving place.here)) v
    → IsCycle place.out place.beyond v

-- the rows of the first step of a resolution span the relations
abbrev pub SpansRelations : Type 0
SpansRelations =
    (relations step : Matrix) → IsOverField relations.ring → IsMatrix relations → IsFirstStep relations step
    → (v : Vector) → InSpan step v ↔ InSpan relations v

-- those of each other step the syzygies of the step before
abbrev pub SpansSyzygiesOfStep : Type 0
SpansSyzygiesOfStep =
    (before step : Matrix) → IsOverField before.ring → IsNextStep before step → (c : Vector) → InSpan step c
    ↔ IsSyzygy before c

-- so a resolution is exact
abbrev pub HasExactResolutions : Type 0
HasExactResolutions =
    (relations : Matrix) → IsOverField relations.ring → IsMatrix relations → (steps : List Matrix)
    → IsResolution relations steps → AreExactOver relations steps

-- generators and relations of a kernel are matrices, where the coefficients of the map are vectors over the target of
-- `source`
abbrev pub HasMatrixKernel : Type 0
HasMatrixKernel =
    (source target map : Matrix) → map.ring ≡ source.ring → row_degrees map ≡ source.target → (g r : Matrix)
    → IsKernel source target map g r → IsMatrix g × IsMatrix r

-- those of an image, where the map goes to the target of the relations
abbrev pub HasMatrixImage : Type 0
HasMatrixImage =
    (target map : Matrix) → IsRing target.ring → map.ring ≡ target.ring → map.target ≡ target.target → IsMatrix map
    → IsMatrix target → (g r : Matrix) → IsImage target map g r → IsMatrix g × IsMatrix r

-- and those of a cokernel
abbrev pub HasMatrixCokernel : Type 0
HasMatrixCokernel = (target map g r : Matrix) → IsCokernel target map g r → IsMatrix g × IsMatrix r
