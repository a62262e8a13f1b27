-- Graded matrices: rows are homogeneous vectors over one free module. (homalg's convention: a matrix acts on row vectors
-- from the right, and the rows of a presentation matrix are its relations.)
use Rattle.std.specs.Prelude.{List, map, ℤ}
use Rattle.std.specs.List.{AllByRecursion}
use Rattle.sf_algebra.specs.Rings.{Ring}
use Rattle.sf_algebra.specs.Vectors.{Vector, IsVector}

-- the ring, the degrees of the generators that the columns stand for, and the rows with their degrees
pub record Matrix : Type 0 where
  pub ring : Ring
  pub target : List ℤ
  pub rows : List Vector

-- the degrees of vectors
abbrev pub degrees_of : List Vector → List ℤ
degrees_of vs = map (λ (v : Vector). v.degree) vs

-- the degrees of the rows: those of the free module from which the matrix goes
abbrev pub row_degrees : Matrix → List ℤ
row_degrees m = degrees_of m.rows

-- each row is a homogeneous vector over the target
abbrev pub IsMatrix : Matrix → Type 0
IsMatrix m = AllByRecursion (IsVector m.ring m.target) m.rows
