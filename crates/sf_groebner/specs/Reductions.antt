-- The reduction of a vector by the rows of a matrix as relations, with the coefficients that it takes. (Textbook; the
-- choice of the coefficients is this project's own.)
use Rattle.std.specs.Prelude.{◌≡◌}
use Rattle.sf_algebra.specs.Matrices.{Matrix}
use Rattle.sf_algebra.specs.VectorOperations.{vector_sum, vector_difference}
use Rattle.sf_algebra.specs.Vectors.{Vector, IsVector}
use Rattle.sf_groebner.specs.Lifts.{IsLift}
use Rattle.sf_groebner.specs.Presentations.{IsReducedByRelations}
use Rattle.sf_groebner.specs.Spans.{combined}

-- v = w + c M, where w is reduced by the rows of M as relations, and c is the lift of v - w
pub record IsReduction (m : Matrix) (v w c : Vector) : Type 0 where
  pub vector : IsVector m.ring m.target w
  pub reduced : IsReducedByRelations m w
  pub lift : IsLift m (vector_difference m.ring v w) c
  pub sum : vector_sum m.ring w (combined m c) ≡ v
