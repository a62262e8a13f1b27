-- What maps of complexes and squares of maps do on homology, kernels, images and cokernels. (Weibel, "An Introduction
-- to Homological Algebra", section 1.1.)
use Rattle.std.specs.Prelude.{◌≡◌, ◌<◌}
use Rattle.sf_algebra.specs.Matrices.{Matrix, row_degrees}
use Rattle.sf_algebra.specs.MatrixOperations.{identity, stacked}
use Rattle.sf_algebra.specs.Rings.{Ring, IsRing}
use Rattle.sf_algebra.specs.Vectors.{Vector, IsCanonicalRow}
use Rattle.sf_groebner.specs.Homology.{ComplexPlace, IsAny, IsCycle}
use Rattle.sf_groebner.specs.Maps.{AreEqualModulo, IsMapInto, IsSquare, AreChainMaps, ActsOnClasses}
use Rattle.sf_groebner.specs.Presentations.{IsModuleMap}
use Rattle.sf_groebner.specs.Spans.{InSpan, combined}

-- the identities are maps of each complex into itself
abbrev pub HasIdentityChainMaps : Type 0
HasIdentityChainMaps =
    (ring : Ring) → IsRing ring → 1 < ring.modulus → (a : ComplexPlace) → a.here.ring ≡ ring → a.beyond.ring ≡ ring → IsMapInto a.here a.arriving → IsMapInto a.beyond a.out → row_degrees a.out ≡ a.here.target
    → AreChainMaps a a (identity ring (row_degrees a.arriving)) (identity ring a.here.target)
    (identity ring a.beyond.target)

-- maps of complexes act on homology: cycles go to cycles and boundaries to boundaries
abbrev pub ActsOnHomology : Type 0
ActsOnHomology =
    (a b : ComplexPlace) (first second third : Matrix) → AreChainMaps a b first second third
    → ActsOnClasses (IsCycle a.out a.beyond) (InSpan (stacked a.arriving a.here)) (IsCycle b.out b.beyond) (InSpan (stacked b.arriving b.here)) second

-- a square of maps of presented modules acts on kernels
abbrev pub ActsOnKernels : Type 0
ActsOnKernels =
    (source target map other_source other_target other_map left right : Matrix) → IsModuleMap source other_source left → IsSquare map target other_map other_target left right
    → ActsOnClasses (IsCycle map target) (InSpan source) (IsCycle other_map other_target) (InSpan other_source) left

-- on images
abbrev pub ActsOnImages : Type 0
ActsOnImages =
    (target map other_target other_map left right : Matrix) → IsSquare map target other_map other_target left right
    → ActsOnClasses (InSpan (stacked map target)) (InSpan target) (InSpan (stacked other_map other_target))
    (InSpan other_target) right

-- and on cokernels
abbrev pub ActsOnCokernels : Type 0
ActsOnCokernels =
    (target map other_target other_map left right : Matrix) → IsSquare map target other_map other_target left right
    → ActsOnClasses (IsAny target.ring target.target) (InSpan (stacked map target))
    (IsAny other_target.ring other_target.target) (InSpan (stacked other_map other_target))
    right

-- a matrix that takes one span into another takes what is equal modulo the first to what is equal modulo the other
abbrev pub KeepsEqualClasses : Type 0
KeepsEqualClasses =
    (map zeros other_zeros : Matrix) → IsRing map.ring → ((v : Vector) → InSpan zeros v → InSpan other_zeros (combined map v))
    → (u v : Vector) → IsCanonicalRow map.ring v.terms → AreEqualModulo map.ring (InSpan zeros) u v
    → AreEqualModulo map.ring (InSpan other_zeros) (combined map u) (combined map v)
