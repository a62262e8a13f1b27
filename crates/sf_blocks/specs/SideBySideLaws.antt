-- What holds of graded matrices side by side. (Any textbook of linear algebra.)
use Rattle.std.specs.Prelude.{◌≡◌, ℕ, ◌+◌, ◌<◌, ◌≤◌, ◌++◌, length, List, [], ℤ}
use Rattle.sf_algebra.specs.Matrices.{Matrix, row_degrees, IsMatrix}
use Rattle.sf_algebra.specs.MatrixOperations.{row_at, row_combination, moved, matrix_product, negated, part, stacked, transposed, IsComposable}
use Rattle.sf_algebra.specs.Rings.{Ring}
use Rattle.sf_algebra.specs.Vectors.{Vector, IsVector, entry}
use Rattle.sf_blocks.specs.MatrixSums.{AreParallel, matrix_sum, zero_matrix}
use Rattle.sf_blocks.specs.SideBySide.{AreBeside, beside}

-- matrices from one free module are side by side a matrix from it
abbrev pub HasMatricesBeside : Type 0
HasMatricesBeside =
    (a b : Matrix) → AreBeside a b → IsMatrix a → IsMatrix b
    → IsMatrix (beside a b) × (row_degrees (beside a b) ≡ row_degrees a)

-- the entries in the left columns are the first matrix's
abbrev pub HasFirstEntries : Type 0
HasFirstEntries =
    (a b : Matrix) → AreBeside a b → (i j : ℕ) → j < length a.target
    → entry j (row_at (beside a b).rows i) ≡ entry j (row_at a.rows i)

-- those in the columns behind them are the second's
abbrev pub HasLastEntries : Type 0
HasLastEntries =
    (a b : Matrix) → AreBeside a b → IsMatrix a → (i j : ℕ)
    → entry (length a.target + j) (row_at (beside a b).rows i) ≡ entry j (row_at b.rows i)

-- the left columns are the first matrix
abbrev pub HasFirstColumns : Type 0
HasFirstColumns =
    (a b : Matrix) → AreBeside a b → IsMatrix a → IsMatrix b
    → part 0 (length a.rows) 0 (length a.target) (beside a b) ≡ a

-- the columns behind them are the second
abbrev pub HasLastColumns : Type 0
HasLastColumns =
    (a b : Matrix) → AreBeside a b → IsMatrix a → IsMatrix b
    → part 0 (length a.rows) (length a.target) (length a.target + length b.target) (beside a b) ≡ b

-- columns of a matrix and the columns behind them are side by side a part
abbrev pub JoinsParts : Type 0
JoinsParts =
    (r0 r1 c0 c1 c2 : ℕ) (m : Matrix) → IsMatrix m → c0 ≤ c1 → c1 ≤ c2 → c1 ≤ length m.target
    → beside (part r0 r1 c0 c1 m) (part r0 r1 c1 c2 m) ≡ part r0 r1 c0 c2 m

-- three matrices may be joined from either side
abbrev pub JoinsAssociatively : Type 0
JoinsAssociatively =
    (a b c : Matrix) → AreBeside a b → AreBeside b c → beside (beside a b) c ≡ beside a (beside b c)

-- a matrix without columns may be left out
abbrev pub LeavesOutNoColumns : Type 0
LeavesOutNoColumns = (m : Matrix) → beside m (zero_matrix m.ring (row_degrees m) []) ≡ m

-- zeros side by side are a zero
abbrev pub JoinsZeros : Type 0
JoinsZeros =
    (ring : Ring) (source first last : List ℤ)
    → beside (zero_matrix ring source first) (zero_matrix ring source last) ≡ zero_matrix ring source (first ++ last)

-- the negative is that of each
abbrev pub NegatesBeside : Type 0
NegatesBeside = (a b : Matrix) → AreBeside a b → negated (beside a b) ≡ beside (negated a) (negated b)

-- (a, b) + (c, d) = (a + c, b + d)
abbrev pub AddsBeside : Type 0
AddsBeside =
    (a b c d : Matrix) → 0 < a.ring.modulus → AreBeside a b → AreParallel a c → AreParallel b d
    → IsMatrix a → IsMatrix b → IsMatrix c → IsMatrix d
    → matrix_sum (beside a b) (beside c d) ≡ beside (matrix_sum a c) (matrix_sum b d)

-- a pair above another is a stack beside another
abbrev pub StacksBeside : Type 0
StacksBeside =
    (a b c d : Matrix) → a.target ≡ c.target → AreBeside a b
    → stacked (beside a b) (beside c d) ≡ beside (stacked a c) (stacked b d)

-- c (a, b) is c a with c b behind it
abbrev pub CombinesBeside : Type 0
CombinesBeside =
    (a b : Matrix) → 0 < a.ring.modulus → AreBeside a b → IsMatrix a → IsMatrix b → (c : Vector)
    → IsVector a.ring (row_degrees a) c
    → row_combination a.ring (beside a b).rows c.terms
    ≡ row_combination a.ring a.rows c.terms ++ moved (length a.target) (row_combination a.ring b.rows c.terms)

-- a (b, c) = (a b, a c)
abbrev pub MultipliesBeside : Type 0
MultipliesBeside =
    (a b c : Matrix) → IsComposable a b → AreBeside b c → IsMatrix a → IsMatrix b → IsMatrix c
    → matrix_product a (beside b c) ≡ beside (matrix_product a b) (matrix_product a c)

-- (a, b) times the stack of c and d is a c + b d
abbrev pub MultipliesByStack : Type 0
MultipliesByStack =
    (a b c d : Matrix) → AreBeside a b → IsComposable a c → IsComposable b d → c.target ≡ d.target → IsMatrix a
    → matrix_product (beside a b) (stacked c d) ≡ matrix_sum (matrix_product a c) (matrix_product b d)

-- the transpose of matrices side by side is the stack of the transposes
abbrev pub TransposesBeside : Type 0
TransposesBeside =
    (a b : Matrix) → AreBeside a b → IsMatrix a → IsMatrix b
    → transposed (beside a b) ≡ stacked (transposed a) (transposed b)

-- the transposes of a stack stand side by side
abbrev pub TransposesStacks : Type 0
TransposesStacks =
    (a b : Matrix) → a.ring ≡ b.ring → a.target ≡ b.target → IsMatrix a → IsMatrix b
    → transposed (stacked a b) ≡ beside (transposed a) (transposed b)
