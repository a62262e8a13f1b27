-- What is made of matrices over n variables is over n variables. (Textbook.)
use Rattle.std.specs.Prelude.{ℕ, List, ℤ}
use Rattle.sf_algebra.specs.Matrices.{Matrix}
use Rattle.sf_algebra.specs.MatrixOperations.{identity, kronecker, matrix_product, negated, part, stacked, transposed}
use Rattle.sf_algebra.specs.Rings.{Ring}
use Rattle.sf_variables.specs.Variables.{IsMatrixInVariables}

-- identities are
abbrev pub HasIdentitiesInVariables : Type 0
HasIdentitiesInVariables = (n : ℕ) (ring : Ring) (degrees : List ℤ) → IsMatrixInVariables n (identity ring degrees)

-- a product is
abbrev pub HasMatrixProductsInVariables : Type 0
HasMatrixProductsInVariables =
    (n : ℕ) (a b : Matrix) → IsMatrixInVariables n a → IsMatrixInVariables n b
    → IsMatrixInVariables n (matrix_product a b)

-- a negative
abbrev pub HasNegatedInVariables : Type 0
HasNegatedInVariables = (n : ℕ) (m : Matrix) → IsMatrixInVariables n m → IsMatrixInVariables n (negated m)

-- a transpose
abbrev pub HasTransposesInVariables : Type 0
HasTransposesInVariables = (n : ℕ) (m : Matrix) → IsMatrixInVariables n m → IsMatrixInVariables n (transposed m)

-- a stack
abbrev pub HasStacksInVariables : Type 0
HasStacksInVariables =
    (n : ℕ) (a b : Matrix) → IsMatrixInVariables n a → IsMatrixInVariables n b → IsMatrixInVariables n (stacked a b)

-- a part
abbrev pub HasPartsInVariables : Type 0
HasPartsInVariables =
    (n r0 r1 c0 c1 : ℕ) (m : Matrix) → IsMatrixInVariables n m → IsMatrixInVariables n (part r0 r1 c0 c1 m)

-- a Kronecker product
abbrev pub HasKroneckerProductsInVariables : Type 0
HasKroneckerProductsInVariables =
    (n : ℕ) (a b : Matrix) → IsMatrixInVariables n a → IsMatrixInVariables n b → IsMatrixInVariables n (kronecker a b)
