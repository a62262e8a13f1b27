-- What holds of the Kronecker product of graded matrices: the tensor product of the maps. (Any textbook of linear
-- algebra.)
use Rattle.std.specs.Prelude.{◌≡◌, ◌==◌, if◌then◌else◌, ℕ, ◌+◌, ◌*◌, ◌<◌, List, [], ◌∷◌, length, ℤ, pos}
use Rattle.sf_algebra.specs.Matrices.{Matrix, row_degrees, IsMatrix}
use Rattle.sf_algebra.specs.MatrixOperations.{row_at, identity, stacked, matrix_product, negated, transposed, moved, degree_sums, kronecker, IsComposable}
use Rattle.sf_algebra.specs.Polynomials.{polynomial_product}
use Rattle.sf_algebra.specs.Rings.{Ring}
use Rattle.sf_algebra.specs.Vectors.{entry}

-- a Kronecker product is a matrix, whose rows have the sums of the degrees
abbrev pub HasKroneckerProducts : Type 0
HasKroneckerProducts =
    (a b : Matrix) → 0 < a.ring.modulus → a.ring ≡ b.ring → IsMatrix a → IsMatrix b
    → IsMatrix (kronecker a b) × (row_degrees (kronecker a b) ≡ degree_sums (row_degrees a) (row_degrees b))

-- its entry for the rows i and k and the columns j and l is the product of a's at (i, j) and b's at (k, l)
abbrev pub MultipliesEntries : Type 0
MultipliesEntries =
    (a b : Matrix) → 0 < a.ring.modulus → IsMatrix b → (i k j l : ℕ) → k < length b.rows → l < length b.target
    → entry (j * length b.target + l) (row_at (kronecker a b).rows (i * length b.rows + k))
    ≡ polynomial_product a.ring (entry j (row_at a.rows i)) (entry l (row_at b.rows k))

-- with an identity as the first factor, the rows of the second stand in blocks of its columns
abbrev pub RepeatsSecondFactor : Type 0
RepeatsSecondFactor =
    (degrees : List ℤ) (b : Matrix) → 0 < b.ring.modulus → IsMatrix b → (i k : ℕ) → i < length degrees → k < length b.rows
    → row_at (kronecker (identity b.ring degrees) b).rows (i * length b.rows + k)
    ≡ moved (i * length b.target) (row_at b.rows k)

-- with an identity as the second factor, the entries of the first stand where the identity has its ones
abbrev pub SpreadsFirstFactor : Type 0
SpreadsFirstFactor =
    (a : Matrix) (degrees : List ℤ) → 1 < a.ring.modulus → IsMatrix a → (i k j l : ℕ) → k < length degrees → l < length degrees
    → entry (j * length degrees + l) (row_at (kronecker a (identity a.ring degrees)).rows (i * length degrees + k))
    ≡ (if k == l then entry j (row_at a.rows i) else [])

-- the identity of the ring, the free module with one generator of degree 0, may be left out
abbrev pub LeavesOutRing : Type 0
LeavesOutRing = (b : Matrix) → 0 < b.ring.modulus → IsMatrix b → kronecker (identity b.ring (pos 0 ∷ [])) b ≡ b

-- identities give an identity
abbrev pub KeepsIdentities : Type 0
KeepsIdentities =
    (ring : Ring) → 1 < ring.modulus → (ds es : List ℤ) → kronecker (identity ring ds)
    (identity ring es) ≡ identity ring (degree_sums ds es)

-- products give a product
abbrev pub KeepsProducts : Type 0
KeepsProducts =
    (a b c d : Matrix) → IsComposable a b → IsComposable c d → a.ring ≡ c.ring → IsMatrix c
    → kronecker (matrix_product a b) (matrix_product c d) ≡ matrix_product (kronecker a c) (kronecker b d)

-- transposes give a transpose
abbrev pub KeepsTransposes : Type 0
KeepsTransposes =
    (a b : Matrix) → 0 < a.ring.modulus → a.ring ≡ b.ring → IsMatrix a → IsMatrix b
    → transposed (kronecker a b) ≡ kronecker (transposed a) (transposed b)

-- a stack as the first factor gives a stack
abbrev pub KeepsStacks : Type 0
KeepsStacks = (a b c : Matrix) → a.ring ≡ b.ring → kronecker (stacked a b) c ≡ stacked (kronecker a c) (kronecker b c)

-- the negative of the first factor gives the negative
abbrev pub TakesFirstNegative : Type 0
TakesFirstNegative =
    (a b : Matrix) → 0 < a.ring.modulus → IsMatrix a → kronecker (negated a) b ≡ negated (kronecker a b)

-- the negative of the second factor gives the negative
abbrev pub TakesSecondNegative : Type 0
TakesSecondNegative =
    (a b : Matrix) → 0 < a.ring.modulus → a.ring ≡ b.ring → IsMatrix b → kronecker a (negated b) ≡ negated
    (kronecker a b)
