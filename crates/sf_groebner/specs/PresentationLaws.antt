-- What holds of presentations: each is determined by its matrices. (Weibel, "An Introduction to Homological Algebra",
-- sections 1.1 and 2.2.)
use Rattle.std.specs.Prelude.{◌≡◌, List, length}
use Rattle.std.specs.List.{AllByRecursion}
use Rattle.sf_algebra.specs.Matrices.{Matrix, row_degrees, IsMatrix}
use Rattle.sf_algebra.specs.MatrixOperations.{stacked}
use Rattle.sf_algebra.specs.Rings.{IsRing}
use Rattle.sf_groebner.specs.Homology.{ComplexPlace, IsHomology, IsKernel, IsImage, IsCokernel}
use Rattle.sf_groebner.specs.Resolutions.{IsResolution}

-- a place of a complex has at most one homology
abbrev pub HasOneHomology : Type 0
HasOneHomology =
    (place : ComplexPlace) → IsRing place.here.ring → place.arriving.ring ≡ place.here.ring → place.out.ring ≡ place.here.ring → place.beyond.ring ≡ place.here.ring
    → IsMatrix (stacked place.arriving place.here) → IsMatrix place.beyond → (g r h s : Matrix) → IsHomology place g r
    → IsHomology place h s → (g ≡ h) × (r ≡ s)

-- a map has at most one kernel
abbrev pub HasOneKernel : Type 0
HasOneKernel =
    (source target map : Matrix) → IsRing source.ring → map.ring ≡ source.ring → target.ring ≡ source.ring
    → IsMatrix source → IsMatrix target → (g r h s : Matrix) → IsKernel source target map g r
    → IsKernel source target map h s → (g ≡ h) × (r ≡ s)

-- one image
abbrev pub HasOneImage : Type 0
HasOneImage =
    (target map : Matrix) → IsRing target.ring → map.ring ≡ target.ring → IsMatrix
    (stacked map target) → IsMatrix target
    → (g r h s : Matrix) → IsImage target map g r → IsImage target map h s → (g ≡ h) × (r ≡ s)

-- and one cokernel
abbrev pub HasOneCokernel : Type 0
HasOneCokernel =
    (target map : Matrix) → IsRing target.ring → map.ring ≡ target.ring → IsMatrix (stacked map target)
    → (g r h s : Matrix) → IsCokernel target map g r → IsCokernel target map h s → (g ≡ h) × (r ≡ s)

-- a presented module has at most one resolution of each length
abbrev pub HasOneResolution : Type 0
HasOneResolution =
    (relations : Matrix) → IsRing relations.ring → IsMatrix relations → (a b : List Matrix) → length a ≡ length b → IsResolution relations a → IsResolution relations b
    → a ≡ b

-- generators and relations of a homology are matrices, where the coefficients of `out` are vectors over the target of
-- `here`
abbrev pub HasMatrixHomology : Type 0
HasMatrixHomology =
    (place : ComplexPlace) → place.out.ring ≡ place.here.ring → row_degrees place.out ≡ place.here.target
    → (g r : Matrix) → IsHomology place g r → IsMatrix g × IsMatrix r

-- the steps of a resolution are matrices
abbrev pub HasMatrixSteps : Type 0
HasMatrixSteps =
    (relations : Matrix) → IsRing relations.ring → IsMatrix relations → (steps : List Matrix) → IsResolution relations steps → AllByRecursion IsMatrix steps
