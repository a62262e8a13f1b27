-- Homology, kernels, images, cokernels and resolutions of what is over n variables are over n variables. (Textbook.)
use Rattle.std.specs.Prelude.{◌≡◌, ℕ, List}
use Rattle.std.specs.List.{AllByRecursion}
use Rattle.sf_algebra.specs.Matrices.{Matrix}
use Rattle.sf_algebra.specs.Rings.{IsRing}
use Rattle.sf_groebner.specs.Homology.{ComplexPlace, IsHomology, IsKernel, IsImage, IsCokernel}
use Rattle.sf_groebner.specs.Resolutions.{IsResolution}
use Rattle.sf_variables.specs.Variables.{IsMatrixInVariables}

-- generators and relations of the homology at a place
abbrev pub HasHomologyInVariables : Type 0
HasHomologyInVariables =
    (n : ℕ) (place : ComplexPlace) → IsRing place.here.ring → place.arriving.ring ≡ place.here.ring
    → place.out.ring ≡ place.here.ring → place.beyond.ring ≡ place.here.ring
    → IsMatrixInVariables n place.arriving → IsMatrixInVariables n place.here → IsMatrixInVariables n place.out
    → IsMatrixInVariables n place.beyond
    → (g r : Matrix) → IsHomology place g r → IsMatrixInVariables n g × IsMatrixInVariables n r

-- those of a kernel
abbrev pub HasKernelInVariables : Type 0
HasKernelInVariables =
    (n : ℕ) (source target map : Matrix) → IsRing source.ring → map.ring ≡ source.ring → target.ring ≡ source.ring
    → IsMatrixInVariables n source → IsMatrixInVariables n target → IsMatrixInVariables n map
    → (g r : Matrix) → IsKernel source target map g r → IsMatrixInVariables n g × IsMatrixInVariables n r

-- of an image
abbrev pub HasImageInVariables : Type 0
HasImageInVariables =
    (n : ℕ) (target map : Matrix) → IsRing target.ring → map.ring ≡ target.ring → IsMatrixInVariables n target
    → IsMatrixInVariables n map
    → (g r : Matrix) → IsImage target map g r → IsMatrixInVariables n g × IsMatrixInVariables n r

-- and of a cokernel
abbrev pub HasCokernelInVariables : Type 0
HasCokernelInVariables =
    (n : ℕ) (target map : Matrix) → IsRing target.ring → map.ring ≡ target.ring → IsMatrixInVariables n target
    → IsMatrixInVariables n map
    → (g r : Matrix) → IsCokernel target map g r → IsMatrixInVariables n g × IsMatrixInVariables n r

-- each step of a resolution
abbrev pub HasStepsInVariables : Type 0
HasStepsInVariables =
    (n : ℕ) (relations : Matrix) → IsRing relations.ring → IsMatrixInVariables n relations
    → (steps : List Matrix) → IsResolution relations steps → AllByRecursion (IsMatrixInVariables n) steps
