-- The numbers of those rows of a matrix that aren't in a module B plus the span of the earlier rows. (Textbook; the
-- choice of the rows is this project's own.)
use Rattle.std.specs.Prelude.{ℕ, ◌<◌, List, [], ◌∷◌, length, map, ℤ, pos, neg_ℤ, ◌≤ℤ◌, slice_index_or}
use Rattle.std.specs.List.{AllByRecursion}
use Rattle.sf_algebra.specs.Matrices.{Matrix}
use Rattle.sf_algebra.specs.Vectors.{Vector}
use Rattle.sf_groebner.specs.MinimalGenerators.{AreKept}
use Rattle.sf_groebner.specs.Spans.{InSpan}

-- each number is less than those after it
abbrev pub IsAscending : List ℕ → Type 0
IsAscending [] = Unit {0}
IsAscending (k ∷ ks) = AllByRecursion (λ l. k < l) ks × IsAscending ks

-- the row at a position; 0 of degree 0 where there is no row
abbrev pub vector_at : List Vector → ℕ → Vector
vector_at rows i = slice_index_or rows i (record { degree = pos 0; terms = [] })

-- the numbers, counted from 0, of the rows of m that aren't in B plus the span of the earlier rows
pub record AreKeptNumbers (B : Vector → Type 0) (m : Matrix) (numbers : List ℕ) : Type 0 where
  pub ascending : IsAscending numbers
  pub within : AllByRecursion (λ i. i < length m.rows) numbers
  pub kept : AreKept m.ring B [] m.rows (map (vector_at m.rows) numbers)

-- the span of the first matrix lies in that of the second
abbrev pub SpansInto : Matrix → Matrix → Type 0
SpansInto base m = (v : Vector) → InSpan base v → InSpan m v

-- a degree from -30,000 to 30,000
abbrev pub IsModerate : ℤ → Type 0
IsModerate d = (neg_ℤ (pos 30000) ≤ℤ d) × (d ≤ℤ pos 30000)
