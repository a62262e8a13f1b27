-- Tensor products of complexes are bicomplexes. (Weibel, "An Introduction to Homological Algebra", section 2.7.)
use Rattle.std.specs.Prelude.{◌≡◌, ◌<◌, List, ℤ}
use Rattle.sf_algebra.specs.Matrices.{Matrix, IsMatrix}
use Rattle.sf_algebra.specs.Rings.{IsOverField, IsRing, Ring}
use Rattle.sf_groebner.specs.Resolutions.{IsResolution}
use Rattle.sf_bicomplex.specs.Bicomplexes.{IsBicomplex}
use Rattle.sf_bicomplex.specs.TensorBicomplexes.{AreComplex, FreeComplex, IsFreeComplex, IsModuleComplex, ModuleComplex, complex_of, tensor_bicomplex, tensor_of_complexes, tensor_with_module}

-- a complex of free modules with a complex of presented modules
abbrev pub HasTensorBicomplexes : Type 0
HasTensorBicomplexes =
    (c : FreeComplex) → IsFreeComplex c → 1 < c.ring.modulus → (d : ModuleComplex) → IsModuleComplex c.ring d
    → IsBicomplex (tensor_bicomplex c d)

-- two complexes of free modules
abbrev pub HasTensorsOfComplexes : Type 0
HasTensorsOfComplexes =
    (c d : FreeComplex) → IsFreeComplex c → IsFreeComplex d → c.ring ≡ d.ring → 1 < c.ring.modulus
    → IsBicomplex (tensor_of_complexes c d)

-- a complex of free modules with a presented module
abbrev pub HasTensorsWithModules : Type 0
HasTensorsWithModules =
    (c : FreeComplex) → IsFreeComplex c → 1 < c.ring.modulus → (m : Matrix) → c.ring ≡ m.ring → IsMatrix m
    → IsBicomplex (tensor_with_module c m)

-- a list of matrices, each of which goes to where the one before comes from, is a complex of free modules
abbrev pub HasComplexesOfLists : Type 0
HasComplexesOfLists =
    (ring : Ring) → IsRing ring → (first : List ℤ) (ms : List Matrix) → AreComplex ring first ms
    → IsFreeComplex (complex_of ring first ms)

-- so is a resolution
abbrev pub HasComplexesOfResolutions : Type 0
HasComplexesOfResolutions =
    (relations : Matrix) → IsOverField relations.ring → IsMatrix relations → (steps : List Matrix)
    → IsResolution relations steps → IsFreeComplex (complex_of relations.ring relations.target steps)
