-- What decides whether the size of a matrix is within bounds. (This project's own.)
use Rattle.std.specs.Prelude.{◌↔◌, ◌++◌, length, ℤ}
use Rattle.sf_algebra.specs.Bounds.{AreFrom, Fits, HasSmallSize}
use Rattle.sf_algebra.specs.Matrices.{Matrix, row_degrees}

-- the numbers of its rows and columns, and bounds of its degrees, each of which is one of them or 0
abbrev pub IsDecidedByRange : Type 0
IsDecidedByRange =
    (m : Matrix) (low high : ℤ) → AreFrom low high (row_degrees m ++ m.target) → HasSmallSize m ↔ Fits (length m.rows)
    (length m.target) low high
