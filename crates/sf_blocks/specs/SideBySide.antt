-- Graded matrices side by side, and matrices of two by two blocks. (Any textbook of linear algebra.)
use Rattle.std.specs.Prelude.{◌++◌, length, ◌≡◌}
use Rattle.sf_algebra.specs.Matrices.{Matrix, row_degrees}
use Rattle.sf_algebra.specs.MatrixOperations.{moved, stacked}
use Rattle.sf_blocks.specs.MatrixSums.{row_by_row, zero_matrix}

-- a and b have one ring, and rows of equal degrees
pub record AreBeside (a b : Matrix) : Type 0 where
  pub rings : a.ring ≡ b.ring
  pub degrees : row_degrees a ≡ row_degrees b

-- (a, b): the rows of a, each with the row of b at its position behind it
abbrev pub beside : Matrix → Matrix → Matrix
beside a b = record {
  ring = a.ring;
  target = a.target ++ b.target;
  rows = row_by_row (λ us vs. us ++ moved (length a.target) vs) a.rows b.rows;
}

-- a, b, c and d have one ring; a and b have rows of equal degrees, and so have c and d; a and c have one target, and so
-- have b and d
pub record AreBlocks (a b c d : Matrix) : Type 0 where
  pub upper : AreBeside a b
  pub lower : AreBeside c d
  pub rings : a.ring ≡ c.ring
  pub left : a.target ≡ c.target
  pub right : b.target ≡ d.target

-- the rows (a, b), and below them (c, d)
abbrev pub blocks : Matrix → Matrix → Matrix → Matrix → Matrix
blocks a b c d = stacked (beside a b) (beside c d)

-- a, l and b have one ring; a and l have one target, and l and b have rows of equal degrees
pub record AreTriangle (a l b : Matrix) : Type 0 where
  pub lower : AreBeside l b
  pub rings : a.ring ≡ l.ring
  pub targets : a.target ≡ l.target

-- the rows (a, 0), and below them (l, b)
abbrev pub triangle : Matrix → Matrix → Matrix → Matrix
triangle a l b = blocks a (zero_matrix a.ring (row_degrees a) b.target) l b
