-- What holds of the product of graded matrices: they are the arrows of a category, whose objects are free modules.
-- (Any textbook of linear algebra.)
use Rattle.std.specs.Prelude.{◌≡◌, ℕ, ◌<◌, List, ℤ}
use Rattle.sf_algebra.specs.Matrices.{Matrix, row_degrees, IsMatrix}
use Rattle.sf_algebra.specs.MatrixOperations.{row_at, identity, matrix_product, entry_products, IsComposable}
use Rattle.sf_algebra.specs.Rings.{Ring}
use Rattle.sf_algebra.specs.Vectors.{entry}

-- a product is a matrix, whose rows have the degrees of the first factor's
abbrev pub HasMatrixProducts : Type 0
HasMatrixProducts =
    (a b : Matrix) → IsComposable a b → IsMatrix a → IsMatrix b → IsMatrix
    (matrix_product a b) × (row_degrees (matrix_product a b) ≡ row_degrees a)

-- the entry at (i, j) is the sum, over k, of the products of the first factor's at (i, k) and the second's at (k, j)
abbrev pub MultipliesRowsByColumns : Type 0
MultipliesRowsByColumns =
    (a b : Matrix) → 0 < a.ring.modulus → (i j : ℕ) → entry j
    (row_at (matrix_product a b).rows i) ≡ entry_products a.ring j (row_at a.rows i) 0 b.rows

-- an identity is a matrix from a free module to itself
abbrev pub HasMatrixIdentities : Type 0
HasMatrixIdentities =
    (ring : Ring) → 1 < ring.modulus → (degrees : List ℤ) → IsMatrix
    (identity ring degrees) × (row_degrees (identity ring degrees) ≡ degrees)

-- an identity before a matrix may be left out
abbrev pub LeavesOutFirstIdentity : Type 0
LeavesOutFirstIdentity =
    (m : Matrix) → 0 < m.ring.modulus → IsMatrix m → matrix_product (identity m.ring (row_degrees m)) m ≡ m

-- an identity behind a matrix may be left out
abbrev pub LeavesOutSecondIdentity : Type 0
LeavesOutSecondIdentity =
    (m : Matrix) → 0 < m.ring.modulus → IsMatrix m → matrix_product m (identity m.ring m.target) ≡ m

-- three factors may be grouped either way
abbrev pub MultipliesAssociatively : Type 0
MultipliesAssociatively =
    (a b c : Matrix) → 0 < a.ring.modulus → a.ring ≡ b.ring → matrix_product (matrix_product a b) c ≡ matrix_product a
    (matrix_product b c)
