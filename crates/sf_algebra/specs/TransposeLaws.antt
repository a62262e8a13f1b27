-- What holds of the transpose of a graded matrix, which goes between the dual free modules. (Any textbook of linear
-- algebra.)
use Rattle.std.specs.Prelude.{◌≡◌, ℕ, ◌<◌, List, map, ℤ, neg_ℤ}
use Rattle.sf_algebra.specs.Matrices.{Matrix, row_degrees, IsMatrix}
use Rattle.sf_algebra.specs.MatrixOperations.{row_at, identity, matrix_product, transposed, IsComposable}
use Rattle.sf_algebra.specs.Rings.{Ring}
use Rattle.sf_algebra.specs.Vectors.{entry}

-- a transpose is a matrix; its rows have the negatives of the degrees of the columns
abbrev pub HasMatrixTransposes : Type 0
HasMatrixTransposes =
    (m : Matrix) → IsMatrix m → IsMatrix (transposed m) × (row_degrees (transposed m) ≡ map neg_ℤ m.target)

-- its entry at (j, i) is the matrix's at (i, j)
abbrev pub ExchangesRowsAndColumns : Type 0
ExchangesRowsAndColumns =
    (m : Matrix) → IsMatrix m → (i j : ℕ) → entry i (row_at (transposed m).rows j) ≡ entry j (row_at m.rows i)

-- a second transpose undoes the first
abbrev pub TransposesBack : Type 0
TransposesBack = (m : Matrix) → IsMatrix m → transposed (transposed m) ≡ m

-- the transpose of an identity is the identity of the negatives of the degrees
abbrev pub TransposesIdentities : Type 0
TransposesIdentities =
    (ring : Ring) → 1 < ring.modulus → (degrees : List ℤ) → transposed (identity ring degrees) ≡ identity ring
    (map neg_ℤ degrees)

-- the transpose of a product is the product of the transposes in the other order
abbrev pub ReversesProducts : Type 0
ReversesProducts =
    (a b : Matrix) → IsComposable a b → IsMatrix a → IsMatrix b → transposed (matrix_product a b) ≡ matrix_product
    (transposed b) (transposed a)
