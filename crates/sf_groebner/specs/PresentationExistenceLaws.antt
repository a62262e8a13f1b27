-- What presented modules have modulo a prime: homology, kernels, images, cokernels and resolutions. (Weibel, "An
-- Introduction to Homological Algebra", sections 1.1 and 2.2.)
use Rattle.std.specs.Prelude.{◌≡◌, ℕ, List, length}
use Rattle.sf_algebra.specs.Matrices.{Matrix, IsMatrix}
use Rattle.sf_algebra.specs.Rings.{IsOverField}
use Rattle.sf_groebner.specs.Homology.{ComplexPlace, IsComplexPlace, IsHomology, IsKernel, IsImage, IsCokernel}
use Rattle.sf_groebner.specs.Presentations.{IsModuleMap}
use Rattle.sf_groebner.specs.Resolutions.{IsResolution}

-- a place has homology
abbrev pub HasHomology : Type 0
HasHomology =
    (place : ComplexPlace) → IsOverField place.here.ring → IsComplexPlace place
    → (generators : Matrix) × (relations : Matrix) × IsHomology place generators relations

-- a map has a kernel
abbrev pub HasKernel : Type 0
HasKernel =
    (source target map : Matrix) → IsOverField source.ring → IsMatrix source → IsMatrix target → IsModuleMap source target map
    → (generators : Matrix) × (relations : Matrix) × IsKernel source target map generators relations

-- an image
abbrev pub HasImage : Type 0
HasImage =
    (source target map : Matrix) → IsOverField target.ring → IsMatrix target → IsModuleMap source target map
    → (generators : Matrix) × (relations : Matrix) × IsImage target map generators relations

-- and a cokernel
abbrev pub HasCokernel : Type 0
HasCokernel =
    (source target map : Matrix) → IsOverField target.ring → IsMatrix target → IsModuleMap source target map
    → (generators : Matrix) × (relations : Matrix) × IsCokernel target map generators relations

-- a presented module has a resolution of each length
abbrev pub HasResolution : Type 0
HasResolution =
    (relations : Matrix) → IsOverField relations.ring → IsMatrix relations → (n : ℕ) → (steps : List Matrix) × (length steps ≡ n) × IsResolution relations steps
