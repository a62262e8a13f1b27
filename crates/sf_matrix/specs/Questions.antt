-- What a query may ask of vectors, once the matrices that it needs were looked at. (Textbook; the choice of the answers is this
-- project's own.)
use Rattle.std.specs.Prelude.{List, [], Bool, not}
use Rattle.std.specs.List.{AllByRecursion}
use Rattle.sf_algebra.specs.Matrices.{Matrix, IsMatrix}
use Rattle.sf_algebra.specs.Rings.{IsOverField}
use Rattle.sf_algebra.specs.Vectors.{Vector, IsVector}
use Rattle.sf_groebner.specs.Cuts.{has_terms}
use Rattle.sf_groebner.specs.MinimalGenerators.{AreKept}
use Rattle.sf_groebner.specs.Reductions.{IsReduction}
use Rattle.sf_groebner.specs.Spans.{InSpan}

-- which of some vectors aren't in the span of a base and the earlier ones; what a vector leaves modulo a matrix, with its
-- coefficients
pub data Question : Type 0 where
  kept : Matrix → List Vector → Question
  rest : Matrix → Vector → Question

abbrev pub Answer : Question → Type 0
Answer (kept base vs) = List Vector
Answer (rest m v) = Vector × Vector

-- the vectors stand over the matrix, which is one over a field
abbrev pub IsSensible : Question → Type 0
IsSensible (kept base vs) =
    IsOverField base.ring × IsMatrix base × AllByRecursion (IsVector base.ring base.target) vs
IsSensible (rest m v) = IsOverField m.ring × IsMatrix m × IsVector m.ring m.target v

-- this is the answer
abbrev pub Holds : (q : Question) → Answer q → Type 0
Holds (kept base vs) ws = AreKept base.ring (InSpan base) [] vs ws
Holds (rest m v) x = IsReduction m v x.0 x.1

-- nothing is left of a vector
abbrev pub is_zero : Vector → Bool
is_zero v = not (has_terms v.terms)
