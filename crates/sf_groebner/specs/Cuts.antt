-- Parts of the vectors of a list, by position. (Textbook: since earlier positions are greater, the order eliminates
-- them.)
use Rattle.std.specs.Prelude.{◌≡◌, Bool, true, false, not, ℕ, List, [], ◌∷◌, length, map}
use Rattle.std.specs.List.{filter}
use Rattle.sf_algebra.specs.Matrices.{Matrix}
use Rattle.sf_algebra.specs.MatrixOperations.{part_terms, stacked, vector_part}
use Rattle.sf_algebra.specs.Terms.{Term}
use Rattle.sf_algebra.specs.Vectors.{Place, Vector}
use Rattle.sf_groebner.specs.Spans.{IsSyzygy}

-- whether a list has a term
abbrev pub has_terms : List (Term Place) → Bool
has_terms [] = false
has_terms (t ∷ ts) = true

-- whether a vector has a term at the first n positions
abbrev pub has_first_part : ℕ → Vector → Bool
has_first_part n v = has_terms (part_terms 0 n v.terms)

-- the parts at the first n positions, of the vectors that have a term there
abbrev pub first_parts : ℕ → List Vector → List Vector
first_parts n vs = map (vector_part 0 n) (filter (has_first_part n) vs)

-- the parts behind them, up to before `end`, of the vectors that have none there
abbrev pub last_parts : ℕ → ℕ → List Vector → List Vector
last_parts n end vs = map (vector_part n end) (filter (λ (v : Vector). not (has_first_part n v)) vs)

-- v is the part at the first n positions of a vector of a module N
pub record IsFirstPart (n : ℕ) (N : Vector → Type 0) (v : Vector) : Type 0 where
  pub whole : Vector
  pub inside : N whole
  pub part : vector_part 0 n whole ≡ v

-- v is the first block of a syzygy of the rows of a and those of b: the coefficients of the rows of a
abbrev pub IsFirstBlock : Matrix → Matrix → Vector → Type 0
IsFirstBlock a b v = IsFirstPart (length a.rows) (IsSyzygy (stacked a b)) v
