-- What holds of the negative of a graded matrix. (Any textbook of linear algebra.)
use Rattle.std.specs.Prelude.{◌≡◌, ℕ, ◌<◌}
use Rattle.sf_algebra.specs.Matrices.{Matrix, row_degrees, IsMatrix}
use Rattle.sf_algebra.specs.MatrixOperations.{row_at, matrix_product, negated, transposed}
use Rattle.sf_algebra.specs.Multiples.{negative}
use Rattle.sf_algebra.specs.Vectors.{entry}

-- a negative is a matrix between the same free modules
abbrev pub HasMatrixNegatives : Type 0
HasMatrixNegatives = (m : Matrix) → IsMatrix m → IsMatrix (negated m) × (row_degrees (negated m) ≡ row_degrees m)

-- its entries are the negatives of the entries
abbrev pub NegatesEntries : Type 0
NegatesEntries =
    (m : Matrix) (i j : ℕ) → entry j (row_at (negated m).rows i) ≡ negative m.ring.modulus (entry j (row_at m.rows i))

-- a second negative undoes the first
abbrev pub NegatesBack : Type 0
NegatesBack = (m : Matrix) → IsMatrix m → negated (negated m) ≡ m

-- the negative of the first factor gives the negative of the product
abbrev pub NegatesWithFirstFactor : Type 0
NegatesWithFirstFactor =
    (a b : Matrix) → 0 < a.ring.modulus → IsMatrix a → matrix_product (negated a) b ≡ negated (matrix_product a b)

-- the negative of the second factor gives the negative of the product
abbrev pub NegatesWithSecondFactor : Type 0
NegatesWithSecondFactor =
    (a b : Matrix) → 0 < a.ring.modulus → a.ring ≡ b.ring → IsMatrix b → matrix_product a (negated b) ≡ negated
    (matrix_product a b)

-- the transpose of a negative is the negative of the transpose
abbrev pub TransposesNegatives : Type 0
TransposesNegatives = (m : Matrix) → IsMatrix m → transposed (negated m) ≡ negated (transposed m)
