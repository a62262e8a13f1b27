-- What holds of the rows of one graded matrix above those of another. (Any textbook of linear algebra.)
use Rattle.std.specs.Prelude.{◌≡◌, ℕ, ◌≤◌, ◌+◌, ◌++◌, length}
use Rattle.sf_algebra.specs.Matrices.{Matrix, row_degrees, IsMatrix}
use Rattle.sf_algebra.specs.MatrixOperations.{matrix_product, negated, stacked, part}

-- matrices over one free module are stacked to a matrix
abbrev pub HasMatrixStacks : Type 0
HasMatrixStacks =
    (a b : Matrix) → a.ring ≡ b.ring → a.target ≡ b.target → IsMatrix a → IsMatrix b
    → IsMatrix (stacked a b) × (row_degrees (stacked a b) ≡ row_degrees a ++ row_degrees b)

-- the first rows are the first matrix
abbrev pub HasFirstRows : Type 0
HasFirstRows = (a b : Matrix) → IsMatrix a → part 0 (length a.rows) 0 (length a.target) (stacked a b) ≡ a

-- the rows behind them are the second matrix
abbrev pub HasLastRows : Type 0
HasLastRows =
    (a b : Matrix) → a.ring ≡ b.ring → a.target ≡ b.target → IsMatrix b
    → part (length a.rows) (length a.rows + length b.rows) 0 (length b.target) (stacked a b) ≡ b

-- rows of a matrix and the rows behind them are stacked to a part
abbrev pub StacksParts : Type 0
StacksParts =
    (r0 r1 r2 c0 c1 : ℕ) (m : Matrix) → r0 ≤ r1 → r1 ≤ r2 → stacked (part r0 r1 c0 c1 m)
    (part r1 r2 c0 c1 m) ≡ part r0 r2 c0 c1 m

-- three matrices may be stacked from either side
abbrev pub HasAssociativeStacks : Type 0
HasAssociativeStacks = (a b c : Matrix) → stacked (stacked a b) c ≡ stacked a (stacked b c)

-- a stack times a matrix is the stack of the products
abbrev pub MultipliesStacks : Type 0
MultipliesStacks =
    (a b n : Matrix) → a.ring ≡ b.ring → matrix_product (stacked a b) n ≡ stacked (matrix_product a n)
    (matrix_product b n)

-- the negative of a stack is the stack of the negatives
abbrev pub NegatesStacks : Type 0
NegatesStacks = (a b : Matrix) → a.ring ≡ b.ring → negated (stacked a b) ≡ stacked (negated a) (negated b)
