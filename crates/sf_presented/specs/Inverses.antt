-- Maps of presented modules that are inverse to one another. (homalg's convention: the rows of a matrix are relations,
-- and maps act on row vectors from the right.)
use Rattle.std.specs.List.{AllByRecursion}
use Rattle.sf_algebra.specs.Matrices.{Matrix}
use Rattle.sf_algebra.specs.MatrixOperations.{identity, matrix_product}
use Rattle.sf_algebra.specs.Vectors.{Vector, IsVector}
use Rattle.sf_groebner.specs.Maps.{AreEqualModulo}
use Rattle.sf_groebner.specs.Presentations.{IsModuleMap}
use Rattle.sf_groebner.specs.Spans.{InSpan, combined}

-- a matrix gives a vector back, modulo the span of the relations
abbrev pub GivesBack : Matrix → Matrix → Vector → Type 0
GivesBack relations m v = AreEqualModulo relations.ring (InSpan relations) v (combined m v)

-- a matrix is the identity modulo relations: it gives each vector back
abbrev pub IsIdentityModulo : Matrix → Matrix → Type 0
IsIdentityModulo relations m = (v : Vector) → IsVector relations.ring relations.target v → GivesBack relations m v

-- it gives each unit vector back
abbrev pub GivesUnitsBack : Matrix → Matrix → Type 0
GivesUnitsBack relations m =
    AllByRecursion (GivesBack relations m) (identity relations.ring relations.target).rows

-- two maps of presented modules, there and back, are inverse to one another
pub record AreInverseModulo (first second to from : Matrix) : Type 0 where
  pub to_map : IsModuleMap first second to
  pub from_map : IsModuleMap second first from
  pub back : IsIdentityModulo first (matrix_product to from)
  pub forth : IsIdentityModulo second (matrix_product from to)
