-- What holds of sums of graded matrices and of zeros: the matrices between two free modules are a commutative group,
-- and products distribute. (Any textbook of linear algebra.)
use Rattle.std.specs.Prelude.{◌≡◌, ◌↔◌, ℕ, ◌<◌, List, [], ℤ, map, neg_ℤ}
use Rattle.sf_algebra.specs.Matrices.{Matrix, row_degrees, IsMatrix}
use Rattle.sf_algebra.specs.MatrixOperations.{row_at, matrix_product, negated, part, transposed}
use Rattle.sf_algebra.specs.Polynomials.{polynomial_sum}
use Rattle.sf_algebra.specs.Rings.{Ring}
use Rattle.sf_algebra.specs.Vectors.{entry}
use Rattle.sf_blocks.specs.MatrixSums.{AreParallel, matrix_sum, matrix_difference, zero_matrix, IsZeroMatrix}

-- a sum is a matrix between the same free modules
abbrev pub HasMatrixSums : Type 0
HasMatrixSums =
    (a b : Matrix) → 0 < a.ring.modulus → AreParallel a b → IsMatrix a → IsMatrix b
    → IsMatrix (matrix_sum a b) × (row_degrees (matrix_sum a b) ≡ row_degrees a)

-- its entries are the sums of the entries
abbrev pub AddsEntries : Type 0
AddsEntries =
    (a b : Matrix) → 0 < a.ring.modulus → AreParallel a b → (i j : ℕ)
    → entry j (row_at (matrix_sum a b).rows i)
    ≡ polynomial_sum a.ring (entry j (row_at a.rows i)) (entry j (row_at b.rows i))

-- the summands may be exchanged
abbrev pub AddsCommutatively : Type 0
AddsCommutatively = (a b : Matrix) → 0 < a.ring.modulus → AreParallel a b → matrix_sum a b ≡ matrix_sum b a

-- three summands may be grouped either way
abbrev pub AddsAssociatively : Type 0
AddsAssociatively =
    (a b c : Matrix) → 0 < a.ring.modulus → AreParallel a b → AreParallel b c
    → matrix_sum (matrix_sum a b) c ≡ matrix_sum a (matrix_sum b c)

-- a zero may be left out
abbrev pub LeavesOutZero : Type 0
LeavesOutZero =
    (m : Matrix) → 0 < m.ring.modulus → IsMatrix m → matrix_sum m (zero_matrix m.ring (row_degrees m) m.target) ≡ m

-- a matrix and its negative give zero
abbrev pub CancelsNegative : Type 0
CancelsNegative =
    (m : Matrix) → 0 < m.ring.modulus → IsMatrix m → matrix_sum m
    (negated m) ≡ zero_matrix m.ring (row_degrees m) m.target

-- a difference is the sum with the negative
abbrev pub AddsNegative : Type 0
AddsNegative = (a b : Matrix) → a.ring ≡ b.ring → matrix_difference a b ≡ matrix_sum a (negated b)

-- the negative of a sum is the sum of the negatives
abbrev pub NegatesSums : Type 0
NegatesSums =
    (a b : Matrix) → 0 < a.ring.modulus → AreParallel a b → IsMatrix a → IsMatrix b
    → negated (matrix_sum a b) ≡ matrix_sum (negated a) (negated b)

-- a part of a sum is the sum of the parts
abbrev pub AddsParts : Type 0
AddsParts =
    (r0 r1 c0 c1 : ℕ) (a b : Matrix) → 0 < a.ring.modulus → AreParallel a b → IsMatrix a → IsMatrix b
    → part r0 r1 c0 c1 (matrix_sum a b) ≡ matrix_sum (part r0 r1 c0 c1 a) (part r0 r1 c0 c1 b)

-- a sum times a matrix is the sum of the products
abbrev pub DistributesFirstSum : Type 0
DistributesFirstSum =
    (a b c : Matrix) → 0 < a.ring.modulus → AreParallel a b
    → matrix_product (matrix_sum a b) c ≡ matrix_sum (matrix_product a c) (matrix_product b c)

-- a matrix times a sum is the sum of the products
abbrev pub DistributesSecondSum : Type 0
DistributesSecondSum =
    (a b c : Matrix) → 0 < a.ring.modulus → a.ring ≡ b.ring → AreParallel b c
    → matrix_product a (matrix_sum b c) ≡ matrix_sum (matrix_product a b) (matrix_product a c)

-- the transpose of a sum is the sum of the transposes
abbrev pub TransposesSums : Type 0
TransposesSums =
    (a b : Matrix) → 0 < a.ring.modulus → AreParallel a b → IsMatrix a → IsMatrix b
    → transposed (matrix_sum a b) ≡ matrix_sum (transposed a) (transposed b)

-- a zero is a matrix between the two free modules
abbrev pub HasZeroMatrices : Type 0
HasZeroMatrices =
    (ring : Ring) (source target : List ℤ) → IsMatrix
    (zero_matrix ring source target) × (row_degrees (zero_matrix ring source target) ≡ source)

-- a matrix is zero exactly where no entry is other than 0
abbrev pub HasZeroEntries : Type 0
HasZeroEntries =
    (m : Matrix) → IsMatrix m → ((i j : ℕ) → entry j (row_at m.rows i) ≡ []) ↔ IsZeroMatrix m

-- zero times a matrix is zero
abbrev pub TakesFirstZero : Type 0
TakesFirstZero =
    (ring : Ring) (source between : List ℤ) (m : Matrix) → 0 < ring.modulus
    → matrix_product (zero_matrix ring source between) m ≡ zero_matrix ring source m.target

-- a matrix times zero is zero
abbrev pub TakesSecondZero : Type 0
TakesSecondZero =
    (ring : Ring) (between target : List ℤ) (m : Matrix) → 0 < m.ring.modulus
    → matrix_product m (zero_matrix ring between target) ≡ zero_matrix m.ring (row_degrees m) target

-- the transpose of zero is zero
abbrev pub TransposesZeros : Type 0
TransposesZeros =
    (ring : Ring) (source target : List ℤ)
    → transposed (zero_matrix ring source target) ≡ zero_matrix ring (map neg_ℤ target) (map neg_ℤ source)
