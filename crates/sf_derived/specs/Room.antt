-- Numbers and degrees of what a map of free modules gives between tensor products with a presented module, and of the relations
-- behind it. (This project's own.)
use Rattle.std.specs.Prelude.{◌≡◌, ℕ, ◌+◌, ◌*◌, ◌^◌, ◌<◌, ◌≤◌, List, length, ℤ, pos, neg_ℤ, ◌≤ℤ◌}
use Rattle.std.specs.List.{AllByRecursion}
use Rattle.sf_algebra.specs.Bounds.{GREATEST_SIZE}
use Rattle.sf_algebra.specs.Matrices.{Matrix, row_degrees}
use Rattle.sf_matrix.specs.Bounds.{SumsFit}

-- the number of rows: those of a for each generator of N, and the relations of N for each generator of the target of a
abbrev pub rows_beside : Matrix → Matrix → ℕ
rows_beside a n = length a.rows * length n.target + length a.target * length n.rows

abbrev pub columns_beside : Matrix → Matrix → ℕ
columns_beside a n = length a.target * length n.target

-- numbers and degrees have room
pub record HasRoomBeside (a n : Matrix) : Type 0 where
  pub rows : rows_beside a n < 2 ^ 64
  pub columns : columns_beside a n < 2 ^ 64
  pub target : SumsFit a.target n.target
  pub source : SumsFit (row_degrees a) n.target
  pub relations : SumsFit a.target (row_degrees n)

-- a look at a matrix with a row and these numbers is a fault
pub record IsBeyondBounds (rows columns : ℕ) : Type 0 where
  pub row : 0 < rows
  pub beyond : (rows ≤ GREATEST_SIZE) × (columns ≤ GREATEST_SIZE) → ⊥

-- a degree from -1,000,000,000 to 1,000,000,000: two of them add within 32 bits
abbrev pub IsUsualDegree : ℤ → Type 0
IsUsualDegree d = (neg_ℤ (pos 1000000000) ≤ℤ d) × (d ≤ℤ pos 1000000000)

-- at most 2 ^ 31 generators, of such degrees
pub record AreUsual (degrees : List ℤ) : Type 0 where
  pub number : length degrees ≤ 2 ^ 31
  pub within : AllByRecursion IsUsualDegree degrees

-- a module has such generators and such relations
pub record IsUsual (m : Matrix) : Type 0 where
  pub generators : AreUsual m.target
  pub relations : AreUsual (row_degrees m)

-- two such modules over one ring
pub record AreUsualTogether (m n : Matrix) : Type 0 where
  pub ring : m.ring ≡ n.ring
  pub first : IsUsual m
  pub second : IsUsual n
