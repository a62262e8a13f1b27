-- What is made of polynomials and of rows over n variables is over n variables. (Textbook.)
use Rattle.std.specs.Prelude.{ℕ, List}
use Rattle.sf_algebra.specs.MatrixOperations.{row_combination, vector_part}
use Rattle.sf_algebra.specs.Monomials.{Monomial}
use Rattle.sf_algebra.specs.Multiples.{negative}
use Rattle.sf_algebra.specs.Polynomials.{polynomial_sum, polynomial_product}
use Rattle.sf_algebra.specs.Rings.{Ring}
use Rattle.sf_algebra.specs.Terms.{Term}
use Rattle.sf_algebra.specs.VectorOperations.{row_sum, row_difference, row_multiple}
use Rattle.sf_algebra.specs.Vectors.{Place, Vector}
use Rattle.sf_variables.specs.Variables.{IsInVariables, IsPolynomialInVariables, IsRowInVariables, IsVectorInVariables, AreInVariables}

-- a sum of polynomials
abbrev pub HasPolynomialSumsInVariables : Type 0
HasPolynomialSumsInVariables =
    (n : ℕ) (ring : Ring) (us vs : List (Term Monomial)) → IsPolynomialInVariables n us
    → IsPolynomialInVariables n vs → IsPolynomialInVariables n (polynomial_sum ring us vs)

-- and a product
abbrev pub HasPolynomialProductsInVariables : Type 0
HasPolynomialProductsInVariables =
    (n : ℕ) (ring : Ring) (us vs : List (Term Monomial)) → IsPolynomialInVariables n us
    → IsPolynomialInVariables n vs → IsPolynomialInVariables n (polynomial_product ring us vs)

-- a sum of rows
abbrev pub HasSumsInVariables : Type 0
HasSumsInVariables =
    (n : ℕ) (ring : Ring) (us vs : List (Term Place)) → IsRowInVariables n us → IsRowInVariables n vs
    → IsRowInVariables n (row_sum ring us vs)

-- a difference
abbrev pub HasDifferencesInVariables : Type 0
HasDifferencesInVariables =
    (n : ℕ) (ring : Ring) (us vs : List (Term Place)) → IsRowInVariables n us → IsRowInVariables n vs
    → IsRowInVariables n (row_difference ring us vs)

-- a negative
abbrev pub HasNegativesInVariables : Type 0
HasNegativesInVariables =
    (n p : ℕ) (us : List (Term Place)) → IsRowInVariables n us → IsRowInVariables n (negative p us)

-- a multiple by a term over n variables
abbrev pub HasMultiplesInVariables : Type 0
HasMultiplesInVariables =
    (n : ℕ) (ring : Ring) (s : Term Monomial) (us : List (Term Place)) → IsInVariables n s.at → IsRowInVariables n us
    → IsRowInVariables n (row_multiple ring s us)

-- a combination of rows with coefficients over n variables
abbrev pub HasCombinationsInVariables : Type 0
HasCombinationsInVariables =
    (n : ℕ) (ring : Ring) (rows : List Vector) (c : List (Term Place)) → AreInVariables n rows → IsRowInVariables n c
    → IsRowInVariables n (row_combination ring rows c)

-- a part
abbrev pub HasVectorPartsInVariables : Type 0
HasVectorPartsInVariables =
    (n from to : ℕ) (v : Vector) → IsVectorInVariables n v → IsVectorInVariables n (vector_part from to v)
