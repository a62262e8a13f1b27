-- The plan of the coordinates of a vector in generators modulo a base, and what its answer means. (Textbook; the choice of the
-- coordinates is this project's own.)
use Rattle.std.specs.Prelude.{◌≡◌, ◌↔◌, if◌then◌else◌, Option, Some, None, length}
use Rattle.sf_algebra.specs.Matrices.{Matrix, row_degrees, IsMatrix}
use Rattle.sf_algebra.specs.MatrixOperations.{stacked, vector_part}
use Rattle.sf_algebra.specs.Vectors.{Vector}
use Rattle.sf_groebner.specs.Presentations.{IsRelation}
use Rattle.sf_groebner.specs.Spans.{InSpan}
use Rattle.sf_matrix.specs.Plans.{Plan, answer, look, ask}
use Rattle.sf_matrix.specs.Questions.{rest, is_zero}
use Rattle.sf_presented.specs.Coordinates.{AreCoordinates}

-- one look at the generators with the base behind them; then what the vector leaves, and the first block of its coefficients
unfoldable pub coordinates_plan : Matrix → Matrix → Vector → Plan (Option Vector)
coordinates_plan generators base v =
    look (stacked generators base) (λ elements.
    ask (rest (stacked generators base) v) (λ left.
    answer (if is_zero left.0 then Some (vector_part 0 (length generators.rows) left.1) else None)))

-- relations that span all relations of generators modulo the span of a base
pub record SpansRelationsModulo (generators base relations : Matrix) : Type 0 where
  pub matrix : IsMatrix relations
  pub ring : relations.ring ≡ generators.ring
  pub target : relations.target ≡ row_degrees generators
  pub spans : (c : Vector) → IsRelation generators (InSpan base) c ↔ InSpan relations c

-- the coordinates of v, reduced by the relations; none where v isn't in the span of generators and base
abbrev pub TellsCoordinates : Matrix → Matrix → Matrix → Vector → Option Vector → Type 0
TellsCoordinates generators base relations v None = InSpan (stacked generators base) v → ⊥
TellsCoordinates generators base relations v (Some c) = AreCoordinates generators base relations v c
