-- What holds of graded matrices of two by two blocks. (Any textbook of linear algebra.)
use Rattle.std.specs.Prelude.{◌≡◌, ◌↔◌, ◌<◌, ◌+◌, ◌++◌, length}
use Rattle.sf_algebra.specs.Matrices.{Matrix, row_degrees, IsMatrix}
use Rattle.sf_algebra.specs.MatrixOperations.{matrix_product, negated, part, stacked, transposed, IsComposable}
use Rattle.sf_blocks.specs.MatrixSums.{AreParallel, matrix_sum, IsZeroMatrix}
use Rattle.sf_blocks.specs.SideBySide.{AreBeside, AreBlocks, AreTriangle, beside, blocks, triangle}

-- blocks are a matrix, from the two sources together to the two targets together
abbrev pub HasBlockMatrices : Type 0
HasBlockMatrices =
    (a b c d : Matrix) → AreBlocks a b c d → IsMatrix a → IsMatrix b → IsMatrix c → IsMatrix d
    → IsMatrix (blocks a b c d) × (row_degrees (blocks a b c d) ≡ row_degrees a ++ row_degrees c)

-- its upper rows and its lower ones are pairs side by side
abbrev pub HasBlockRows : Type 0
HasBlockRows =
    (a b c d : Matrix) → AreBlocks a b c d → IsMatrix a → IsMatrix b → IsMatrix c → IsMatrix d
    → (part 0 (length a.rows) 0 (length a.target + length b.target) (blocks a b c d) ≡ beside a b)
    × (part (length a.rows) (length a.rows + length c.rows) 0 (length c.target + length d.target) (blocks a b c d)
    ≡ beside c d)

-- blocks are multiplied like entries
abbrev pub MultipliesBlocks : Type 0
MultipliesBlocks =
    (a b c d e f g h : Matrix) → AreBlocks a b c d → AreBlocks e f g h → IsComposable a e → IsComposable b g
    → IsMatrix a → IsMatrix b → IsMatrix c → IsMatrix d → IsMatrix e → IsMatrix f → IsMatrix g → IsMatrix h
    → matrix_product (blocks a b c d) (blocks e f g h)
    ≡ blocks (matrix_sum (matrix_product a e) (matrix_product b g)) (matrix_sum (matrix_product a f) (matrix_product b h))
    (matrix_sum (matrix_product c e) (matrix_product d g)) (matrix_sum (matrix_product c f) (matrix_product d h))

-- they are added one by one
abbrev pub AddsBlocks : Type 0
AddsBlocks =
    (a b c d e f g h : Matrix) → 0 < a.ring.modulus → AreBlocks a b c d → AreParallel a e → AreParallel b f
    → AreParallel c g → AreParallel d h → IsMatrix a → IsMatrix b → IsMatrix c → IsMatrix d → IsMatrix e → IsMatrix f
    → IsMatrix g → IsMatrix h
    → matrix_sum (blocks a b c d) (blocks e f g h)
    ≡ blocks (matrix_sum a e) (matrix_sum b f) (matrix_sum c g) (matrix_sum d h)

-- the negative is that of each
abbrev pub NegatesBlocks : Type 0
NegatesBlocks =
    (a b c d : Matrix) → AreBlocks a b c d
    → negated (blocks a b c d) ≡ blocks (negated a) (negated b) (negated c) (negated d)

-- the transpose has the transposes, the second and the third exchanged
abbrev pub TransposesBlocks : Type 0
TransposesBlocks =
    (a b c d : Matrix) → AreBlocks a b c d → IsMatrix a → IsMatrix b → IsMatrix c → IsMatrix d
    → transposed (blocks a b c d) ≡ blocks (transposed a) (transposed c) (transposed b) (transposed d)

-- matrices side by side are zero exactly where both are
abbrev pub HasZerosBeside : Type 0
HasZerosBeside = (a b : Matrix) → AreBeside a b → IsZeroMatrix (beside a b) ↔ (IsZeroMatrix a × IsZeroMatrix b)

-- a stack is zero exactly where both matrices are
abbrev pub HasZeroStacks : Type 0
HasZeroStacks = (a b : Matrix) → IsZeroMatrix (stacked a b) ↔ (IsZeroMatrix a × IsZeroMatrix b)

-- a sum of stacks is the stack of the sums
abbrev pub AddsStacks : Type 0
AddsStacks =
    (a b c d : Matrix) → a.ring ≡ b.ring → AreParallel a c
    → matrix_sum (stacked a b) (stacked c d) ≡ stacked (matrix_sum a c) (matrix_sum b d)

-- a triangle is a matrix, from the two sources together to the two targets together
abbrev pub HasTriangles : Type 0
HasTriangles =
    (a l b : Matrix) → AreTriangle a l b → IsMatrix a → IsMatrix l → IsMatrix b
    → IsMatrix (triangle a l b) × (row_degrees (triangle a l b) ≡ row_degrees a ++ row_degrees l)

-- the product of two triangles is a triangle
abbrev pub MultipliesTriangles : Type 0
MultipliesTriangles =
    (a l b c m d : Matrix) → AreTriangle a l b → AreTriangle c m d → IsComposable a c → IsComposable b d → IsMatrix a
    → IsMatrix l → IsMatrix b → IsMatrix c → IsMatrix m → IsMatrix d
    → matrix_product (triangle a l b) (triangle c m d)
    ≡ triangle (matrix_product a c) (matrix_sum (matrix_product l c) (matrix_product b m)) (matrix_product b d)

-- so it is zero exactly where the products on the diagonal are, and the two paths below it cancel
abbrev pub HasZeroTriangles : Type 0
HasZeroTriangles =
    (a l b c m d : Matrix) → AreTriangle a l b → AreTriangle c m d → IsComposable a c → IsComposable b d → IsMatrix a
    → IsMatrix l → IsMatrix b → IsMatrix c → IsMatrix m → IsMatrix d
    → IsZeroMatrix (matrix_product (triangle a l b) (triangle c m d))
    ↔ (IsZeroMatrix (matrix_product a c)
    × (IsZeroMatrix (matrix_sum (matrix_product l c) (matrix_product b m)) × IsZeroMatrix (matrix_product b d)))
