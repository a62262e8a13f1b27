-- What holds of Kronecker products of sums, of zeros and of matrices side by side. (Any textbook of linear algebra.)
use Rattle.std.specs.Prelude.{◌≡◌, ◌<◌, List, ℤ}
use Rattle.sf_algebra.specs.Matrices.{Matrix, row_degrees, IsMatrix}
use Rattle.sf_algebra.specs.MatrixOperations.{identity, matrix_product, negated, kronecker, degree_sums}
use Rattle.sf_algebra.specs.Rings.{Ring}
use Rattle.sf_blocks.specs.MatrixSums.{AreParallel, matrix_sum, zero_matrix, IsZeroMatrix}
use Rattle.sf_blocks.specs.SideBySide.{AreBeside, beside}

-- a sum as the first factor gives a sum
abbrev pub KeepsFirstSums : Type 0
KeepsFirstSums =
    (a b c : Matrix) → 0 < a.ring.modulus → AreParallel a b
    → kronecker (matrix_sum a b) c ≡ matrix_sum (kronecker a c) (kronecker b c)

-- and so does one as the second
abbrev pub KeepsSecondSums : Type 0
KeepsSecondSums =
    (a b c : Matrix) → 0 < a.ring.modulus → a.ring ≡ b.ring → AreParallel b c
    → kronecker a (matrix_sum b c) ≡ matrix_sum (kronecker a b) (kronecker a c)

-- zero as the first factor gives zero
abbrev pub KeepsFirstZeros : Type 0
KeepsFirstZeros =
    (ring : Ring) (source target : List ℤ) (b : Matrix) → 0 < ring.modulus
    → kronecker (zero_matrix ring source target) b
    ≡ zero_matrix ring (degree_sums source (row_degrees b)) (degree_sums target b.target)

-- and so does zero as the second
abbrev pub KeepsSecondZeros : Type 0
KeepsSecondZeros =
    (ring : Ring) (source target : List ℤ) (a : Matrix) → 0 < a.ring.modulus
    → kronecker a (zero_matrix ring source target)
    ≡ zero_matrix a.ring (degree_sums (row_degrees a) source) (degree_sums a.target target)

-- matrices side by side as the first factor give matrices side by side
abbrev pub KeepsMatricesBeside : Type 0
KeepsMatricesBeside =
    (a b c : Matrix) → 0 < a.ring.modulus → AreBeside a b → a.ring ≡ c.ring → IsMatrix a → IsMatrix c
    → kronecker (beside a b) c ≡ beside (kronecker a c) (kronecker b c)

-- a factor before the other and after it cancel, where one map of the second factor has a sign: so the maps of the
-- bicomplex of two complexes anticommute
abbrev pub CancelsCrossings : Type 0
CancelsCrossings =
    (a b : Matrix) → 1 < a.ring.modulus → a.ring ≡ b.ring → IsMatrix a → IsMatrix b
    → IsZeroMatrix (matrix_sum
    (matrix_product (kronecker (identity a.ring (row_degrees a)) b) (kronecker a (identity a.ring b.target)))
    (matrix_product (kronecker a (identity a.ring (row_degrees b))) (negated (kronecker (identity a.ring a.target) b))))

-- and so they do where the other has it
abbrev pub CancelsOtherCrossings : Type 0
CancelsOtherCrossings =
    (a b : Matrix) → 1 < a.ring.modulus → a.ring ≡ b.ring → IsMatrix a → IsMatrix b
    → IsZeroMatrix (matrix_sum
    (matrix_product (negated (kronecker (identity a.ring (row_degrees a)) b)) (kronecker a (identity a.ring b.target)))
    (matrix_product (kronecker a (identity a.ring (row_degrees b))) (kronecker (identity a.ring a.target) b)))
