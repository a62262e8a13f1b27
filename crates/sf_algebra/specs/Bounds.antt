-- The bounds of what the program keeps, and of what it computes bases for. (The bounds are this project's own.)
use Rattle.std.specs.Prelude.{◌≡◌, ◌⊎◌, ℕ, ◌≤◌, List, [], ◌∷◌, length, ℤ, pos, neg_ℤ, ◌≤ℤ◌}
use Rattle.std.specs.List.{AllByRecursion}
use Rattle.sf_algebra.specs.Matrices.{Matrix, row_degrees}

-- the greatest sum of exponents of a monomial that the program keeps
abbrev pub GREATEST_SUM : ℕ
GREATEST_SUM = 65535

-- the greatest number of rows, of columns and of elements of a basis
abbrev pub GREATEST_SIZE : ℕ
GREATEST_SIZE = 4096

-- the greatest degree of a row or a column; the least is its negative
abbrev pub GREATEST_DEGREE : ℤ
GREATEST_DEGREE = pos 8000

abbrev pub IsSmallDegree : ℤ → Type 0
IsSmallDegree d = (neg_ℤ GREATEST_DEGREE ≤ℤ d) × (d ≤ℤ GREATEST_DEGREE)

-- the size and the degrees of a matrix are within bounds
pub record HasSmallSize (m : Matrix) : Type 0 where
  pub rows : length m.rows ≤ GREATEST_SIZE
  pub columns : length m.target ≤ GREATEST_SIZE
  pub row_degrees : AllByRecursion IsSmallDegree (row_degrees m)
  pub column_degrees : AllByRecursion IsSmallDegree m.target

-- numbers of rows and columns are within bounds, and degrees from `low` to `high`
abbrev pub Fits : ℕ → ℕ → ℤ → ℤ → Type 0
Fits rows columns low high =
    (rows ≤ GREATEST_SIZE) × ((columns ≤ GREATEST_SIZE) × ((neg_ℤ GREATEST_DEGREE ≤ℤ low) × (high ≤ℤ GREATEST_DEGREE)))

-- d is one of these degrees
abbrev pub IsOneOf : ℤ → List ℤ → Type 0
IsOneOf d [] = ⊥
IsOneOf d (e ∷ es) = (d ≡ e) ⊎ IsOneOf d es

-- degrees are from `low` to `high`, and each of these is one of them or 0
pub record AreFrom (low high : ℤ) (degrees : List ℤ) : Type 0 where
  pub between : AllByRecursion (λ (d : ℤ). (low ≤ℤ d) × (d ≤ℤ high)) degrees
  pub least : IsOneOf low (pos 0 ∷ degrees)
  pub greatest : IsOneOf high (pos 0 ∷ degrees)
