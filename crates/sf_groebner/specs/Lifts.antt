-- Lifts: the one choice of coefficients. (Textbook; the choice is this project's own.)
use Rattle.std.specs.Prelude.{◌≡◌, List}
use Rattle.sf_algebra.specs.Matrices.{Matrix}
use Rattle.sf_algebra.specs.Vectors.{Vector}
use Rattle.sf_groebner.specs.ReducedBases.{IsReducedBy, IsSyzygyBasis}
use Rattle.sf_groebner.specs.Spans.{IsCoefficients, combined}

-- c M = v, and no term of c is divided by a lead of the reduced basis of the syzygies
pub record IsLift (m : Matrix) (v c : Vector) : Type 0 where
  pub syzygies : List Vector
  pub basis : IsSyzygyBasis m syzygies
  pub coefficients : IsCoefficients m c
  pub value : combined m c ≡ v
  pub reduced : IsReducedBy syzygies c.terms
