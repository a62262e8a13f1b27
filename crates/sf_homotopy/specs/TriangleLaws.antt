-- What holds of block triangular matrices with exact blocks on the diagonal. (Weibel, "An Introduction to Homological
-- Algebra", section 2.2: the horseshoe lemma.)
use Rattle.std.specs.Prelude.{◌<◌, List}
use Rattle.sf_algebra.specs.Matrices.{Matrix, IsMatrix}
use Rattle.sf_algebra.specs.MatrixOperations.{matrix_product}
use Rattle.sf_algebra.specs.Rings.{Ring}
use Rattle.sf_blocks.specs.MatrixSums.{IsZeroMatrix}
use Rattle.sf_blocks.specs.SideBySide.{AreTriangle, triangle}
use Rattle.sf_homotopy.specs.BlockTriangles.{BlockRow, AreBlockRows, HaveExactDiagonals, block_triangle}
use Rattle.sf_homotopy.specs.Exactness.{IsExactPair}

-- two triangles that give 0, one after the other, are exact where their blocks on the diagonal are
abbrev pub HasExactTriangles : Type 0
HasExactTriangles =
    (a l b c m d : Matrix) → AreTriangle a l b → AreTriangle c m d → IsMatrix l → IsMatrix m
    → IsExactPair a c → IsExactPair b d → IsZeroMatrix (matrix_product (triangle c m d) (triangle a l b))
    → IsExactPair (triangle a l b) (triangle c m d)

-- so are block triangular matrices with any number of blocks on the diagonal
abbrev pub HasExactBlockTriangles : Type 0
HasExactBlockTriangles =
    (ring : Ring) (rs ss : List BlockRow) → 0 < ring.modulus → AreBlockRows ring rs → AreBlockRows ring ss
    → HaveExactDiagonals rs ss → IsZeroMatrix (matrix_product (block_triangle ring ss) (block_triangle ring rs))
    → IsExactPair (block_triangle ring rs) (block_triangle ring ss)
