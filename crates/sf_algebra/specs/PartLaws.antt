-- What holds of a range of rows in a range of columns of a graded matrix. (Any textbook of linear algebra.)
use Rattle.std.specs.Prelude.{◌≡◌, ℕ, ◌+◌, ◌<◌, ◌≤◌, length, slice_range}
use Rattle.sf_algebra.specs.Matrices.{Matrix, row_degrees, IsMatrix}
use Rattle.sf_algebra.specs.MatrixOperations.{row_at, matrix_product, transposed, part}
use Rattle.sf_algebra.specs.Vectors.{entry}

-- a part is a matrix, whose rows have their degrees
abbrev pub HasMatrixParts : Type 0
HasMatrixParts =
    (r0 r1 c0 c1 : ℕ) (m : Matrix) → IsMatrix m
    → IsMatrix (part r0 r1 c0 c1 m) × (row_degrees (part r0 r1 c0 c1 m) ≡ slice_range (row_degrees m) r0 r1)

-- its entries are the matrix's, counted from the first row and the first column
abbrev pub PicksEntries : Type 0
PicksEntries =
    (r0 r1 c0 c1 : ℕ) (m : Matrix) (i j : ℕ) → r0 + i < r1 → c0 + j < c1
    → entry j (row_at (part r0 r1 c0 c1 m).rows i) ≡ entry (c0 + j) (row_at m.rows (r0 + i))

-- all rows in all columns are the matrix
abbrev pub HasWholeParts : Type 0
HasWholeParts = (m : Matrix) → IsMatrix m → part 0 (length m.rows) 0 (length m.target) m ≡ m

-- a part of a part is a part
abbrev pub HasPartsOfParts : Type 0
HasPartsOfParts =
    (r0 r1 c0 c1 s0 s1 d0 d1 : ℕ) (m : Matrix) → IsMatrix m → r0 + s1 ≤ r1 → c0 + d1 ≤ c1
    → part s0 s1 d0 d1 (part r0 r1 c0 c1 m) ≡ part (r0 + s0) (r0 + s1) (c0 + d0) (c0 + d1) m

-- a part of a product is the product of rows of the first factor and columns of the second
abbrev pub MultipliesParts : Type 0
MultipliesParts =
    (r0 r1 c0 c1 : ℕ) (a b : Matrix) → 0 < a.ring.modulus → IsMatrix a
    → part r0 r1 c0 c1 (matrix_product a b)
    ≡ matrix_product (part r0 r1 0 (length a.target) a) (part 0 (length b.rows) c0 c1 b)

-- the transpose of a part is a part of the transpose
abbrev pub TransposesParts : Type 0
TransposesParts =
    (r0 r1 c0 c1 : ℕ) (m : Matrix) → IsMatrix m → transposed (part r0 r1 c0 c1 m) ≡ part c0 c1 r0 r1 (transposed m)
