-- Matrices that describe a correspondence of vectors in generators of presented modules: their rows are the reduced
-- coordinates of what the generators correspond to. (The choice of the coordinates is this project's own.)
use Rattle.std.specs.Prelude.{◌≡◌, List, [], ◌∷◌}
use Rattle.sf_algebra.specs.Matrices.{Matrix, row_degrees}
use Rattle.sf_algebra.specs.Vectors.{Vector}
use Rattle.sf_groebner.specs.Presentations.{IsReducedByRelations}
use Rattle.sf_groebner.specs.Spans.{IsCoefficients, combined}

-- c are coordinates, reduced by the relations, of a vector to which u corresponds
pub record AreCoordinatesOf (F : Vector → Vector → Type 0) (generators relations : Matrix) (u c : Vector) : Type 0 where
  pub coefficients : IsCoefficients generators c
  pub reduced : IsReducedByRelations relations c
  pub corresponds : F u (combined generators c)

-- vectors and such coordinates, one after another
abbrev pub HaveCoordinatesOf : (Vector → Vector → Type 0) → Matrix → Matrix → List Vector → List Vector → Type 0
HaveCoordinatesOf F generators relations [] [] = Unit {0}
HaveCoordinatesOf F generators relations [] (c ∷ cs) = ⊥
HaveCoordinatesOf F generators relations (u ∷ us) [] = ⊥
HaveCoordinatesOf F generators relations (u ∷ us) (c ∷ cs) =
    AreCoordinatesOf F generators relations u c × HaveCoordinatesOf F generators relations us cs

-- the rows of m are such coordinates of the rows of `described`
pub record Describes (F : Vector → Vector → Type 0) (generators relations described m : Matrix) : Type 0 where
  pub ring : m.ring ≡ generators.ring
  pub target : m.target ≡ row_degrees generators
  pub rows : HaveCoordinatesOf F generators relations described.rows m.rows
