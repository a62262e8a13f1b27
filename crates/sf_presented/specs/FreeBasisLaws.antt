-- The reduced basis of a whole free module. (Cox, Little, O'Shea, "Using Algebraic Geometry", chapter 5, section 2; the
-- order of rows is this project's own.)
use Rattle.std.specs.Prelude.{◌<◌, List, ℤ}
use Rattle.sf_algebra.specs.MatrixOperations.{identity}
use Rattle.sf_algebra.specs.Rings.{Ring, IsRing}
use Rattle.sf_groebner.specs.Homology.{IsAny}
use Rattle.sf_groebner.specs.ReducedBases.{IsReducedBasis, IsSpanBasis}
use Rattle.sf_presented.specs.FreeBases.{unit_basis}

-- that of the span of the identity is the unit vectors
abbrev pub HasUnitBasis : Type 0
HasUnitBasis =
    (ring : Ring) → IsRing ring → 1 < ring.modulus → (degrees : List ℤ)
    → IsSpanBasis (identity ring degrees) (unit_basis degrees)

-- and so is that of all vectors
abbrev pub HasUnitBasisOfAll : Type 0
HasUnitBasisOfAll =
    (ring : Ring) → IsRing ring → 1 < ring.modulus → (degrees : List ℤ)
    → IsReducedBasis ring.weights (IsAny ring degrees) (unit_basis degrees)
