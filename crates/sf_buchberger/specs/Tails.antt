-- The rest of a vector's tail. (Cox, Little, O'Shea, "Using Algebraic Geometry", chapter 5, section 2.)
use Rattle.std.specs.Prelude.{List}
use Rattle.sf_algebra.specs.Matrices.{Matrix}
use Rattle.sf_algebra.specs.Terms.{Term}
use Rattle.sf_algebra.specs.Vectors.{Place, Vector}
use Rattle.sf_groebner.specs.Divisions.{IsDivided, tail_of}

-- what is left of the terms behind the lead of v, divided by all rows of m
pub record IsRestOfTail (m : Matrix) (v : Vector) (rest : List (Term Place)) : Type 0 where
  pub quotients : List (Term Place)
  pub divided : IsDivided m.ring m.target m.rows v.degree (tail_of v.terms) rest quotients
