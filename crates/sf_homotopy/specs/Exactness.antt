-- Exact complexes of free modules. (Weibel, "An Introduction to Homological Algebra", section 1.1; a matrix acts on row
-- vectors from the right.)
use Rattle.std.specs.Prelude.{◌↔◌, List, [], ◌∷◌, ℤ}
use Rattle.sf_algebra.specs.Matrices.{Matrix, IsMatrix}
use Rattle.sf_algebra.specs.MatrixOperations.{IsComposable}
use Rattle.sf_algebra.specs.Rings.{Ring}
use Rattle.sf_algebra.specs.Vectors.{Vector}
use Rattle.sf_blocks.specs.MatrixSums.{zero_matrix}
use Rattle.sf_groebner.specs.Spans.{InSpan, IsSyzygy}

-- `into` arrives where `out` leaves, and what it reaches is what `out` sends to 0
pub record IsExactPair (out into : Matrix) : Type 0 where
  pub out_matrix : IsMatrix out
  pub into_matrix : IsMatrix into
  pub meet : IsComposable into out
  pub exact : (v : Vector) → IsSyzygy out v ↔ InSpan into v

-- the maps that follow `out`, each of which arrives where the one before leaves, are exact with it and one another
abbrev pub AreExactBehind : Matrix → List Matrix → Type 0
AreExactBehind out [] = Unit {0}
AreExactBehind out (into ∷ more) = IsExactPair out into × AreExactBehind into more

-- a complex, given by its maps, the one that goes furthest down first, is exact at each place between two of them
abbrev pub IsExactComplex : List Matrix → Type 0
IsExactComplex [] = Unit {0}
IsExactComplex (out ∷ more) = AreExactBehind out more

-- the map of a free module to the module 0
abbrev pub to_nothing : Ring → List ℤ → Matrix
to_nothing ring degrees = zero_matrix ring degrees []

-- the map of the module 0 to a free module
abbrev pub from_nothing : Ring → List ℤ → Matrix
from_nothing ring degrees = zero_matrix ring [] degrees

-- it is exact too where its first map goes, which is onto a free module with generators of these degrees
abbrev pub IsExactOnto : Ring → List ℤ → List Matrix → Type 0
IsExactOnto ring degrees maps = IsExactComplex (to_nothing ring degrees ∷ maps)
