-- Coordinates of vectors in generators, modulo a base. (Textbook; the choice of the coordinates is this project's own.)
use Rattle.std.specs.Prelude.{◌≡◌, List, [], ◌∷◌}
use Rattle.sf_algebra.specs.Matrices.{Matrix, row_degrees}
use Rattle.sf_algebra.specs.Vectors.{Vector}
use Rattle.sf_groebner.specs.Maps.{AreEqualModulo}
use Rattle.sf_groebner.specs.Presentations.{IsReducedByRelations}
use Rattle.sf_groebner.specs.Spans.{InSpan, IsCoefficients, combined}

-- c are the coordinates of v: coefficients of v's degree, reduced by the relations, for which v - c G is in the span of
-- the base
pub record AreCoordinates (generators base relations : Matrix) (v c : Vector) : Type 0 where
  pub coefficients : IsCoefficients generators c
  pub reduced : IsReducedByRelations relations c
  pub value : AreEqualModulo generators.ring (InSpan base) v (combined generators c)

-- each vector of a list has the coordinates that stand at its place in another
abbrev pub HaveCoordinates : Matrix → Matrix → Matrix → List Vector → List Vector → Type 0
HaveCoordinates generators base relations [] [] = Unit {0}
HaveCoordinates generators base relations [] (c ∷ cs) = ⊥
HaveCoordinates generators base relations (v ∷ vs) [] = ⊥
HaveCoordinates generators base relations (v ∷ vs) (c ∷ cs) =
    AreCoordinates generators base relations v c × HaveCoordinates generators base relations vs cs

-- a matrix describes vectors by generators: its rows are their coordinates
pub record IsDescription (generators base relations described m : Matrix) : Type 0 where
  pub ring : m.ring ≡ generators.ring
  pub target : m.target ≡ row_degrees generators
  pub rows : HaveCoordinates generators base relations described.rows m.rows
