-- Block triangular matrices, with any number of blocks on the diagonal. (Any textbook of linear algebra; Weibel, "An
-- Introduction to Homological Algebra", section 2.2: the horseshoe lemma.)
use Rattle.std.specs.Prelude.{List, [], ◌∷◌}
use Rattle.sf_algebra.specs.Matrices.{Matrix, IsMatrix}
use Rattle.sf_algebra.specs.Rings.{Ring}
use Rattle.sf_blocks.specs.MatrixSums.{zero_matrix}
use Rattle.sf_blocks.specs.SideBySide.{AreTriangle, triangle}
use Rattle.sf_homotopy.specs.Exactness.{IsExactPair}

-- the last rows of a block triangular matrix: the block on the diagonal, and what stands at its left, below the others
pub record BlockRow : Type 0 where
  pub below : Matrix
  pub diagonal : Matrix

-- the matrix of these rows, the last ones first: what stands above a block on the diagonal is zero
abbrev pub block_triangle : Ring → List BlockRow → Matrix
block_triangle ring [] = zero_matrix ring [] []
block_triangle ring (r ∷ rs) = triangle (block_triangle ring rs) r.below r.diagonal

-- the blocks of each row fit one another and the rows above
abbrev pub AreBlockRows : Ring → List BlockRow → Type 0
AreBlockRows ring [] = Unit {0}
AreBlockRows ring (r ∷ rs) =
    AreTriangle (block_triangle ring rs) r.below r.diagonal × IsMatrix r.below × AreBlockRows ring rs

-- as many rows as others, and the blocks on the diagonals are exact, one by one
abbrev pub HaveExactDiagonals : List BlockRow → List BlockRow → Type 0
HaveExactDiagonals [] [] = Unit {0}
HaveExactDiagonals (r ∷ rs) (s ∷ ss) = IsExactPair r.diagonal s.diagonal × HaveExactDiagonals rs ss
HaveExactDiagonals [] (s ∷ ss) = ⊥
HaveExactDiagonals (r ∷ rs) [] = ⊥
