-- What holds of the combination c M of the rows of a matrix M with the coefficients c: matrices act on row vectors from
-- the right, additively in both and associatively. (Any textbook of linear algebra; homalg's convention.)
use Rattle.std.specs.Prelude.{◌≡◌, if◌then◌else◌, ℕ, ◌<◌, List, [], ◌∷◌, ◌++◌, length, ℤ}
use Rattle.std.specs.List.{AllByRecursion}
use Rattle.std.specs.Ordering.{is_eq}
use Rattle.sf_algebra.specs.Matrices.{Matrix, IsMatrix}
use Rattle.sf_algebra.specs.MatrixOperations.{row_at, row_combination, unit_vector, unit_rows, matrix_product, negated, moved, entry_products}
use Rattle.sf_algebra.specs.Monomials.{Monomial}
use Rattle.sf_algebra.specs.Multiples.{place_product, negative}
use Rattle.sf_algebra.specs.Residues.{product_mod}
use Rattle.sf_algebra.specs.Rings.{Ring}
use Rattle.sf_algebra.specs.Sums.{total, coefficient_at}
use Rattle.sf_algebra.specs.Terms.{Term}
use Rattle.sf_algebra.specs.VectorOperations.{row_sum, row_multiple}
use Rattle.sf_algebra.specs.Vectors.{Place, Vector, place_cmp, entry, IsCanonicalRow}

-- a combination is canonical
abbrev pub HasCanonicalCombinations : Type 0
HasCanonicalCombinations =
    (ring : Ring) → 0 < ring.modulus → (rows : List Vector) (c : List (Term Place)) → IsCanonicalRow ring
    (row_combination ring rows c)

-- the product of the coefficients of a term of c and a term of its row whose product stands at k, and 0 for other terms
abbrev pub combination_part : Ring → Place → Term Place → Term Place → ℕ
combination_part ring k t u =
    if is_eq (place_cmp ring.weights (place_product t.at.monomial u.at) k) then product_mod ring.modulus t.coefficient u.coefficient else 0

-- the coefficient of c M at k is the sum, over the terms of c and of their rows whose product stands at k, of the
-- products of their coefficients
abbrev pub SumsProductsWithRows : Type 0
SumsProductsWithRows =
    (ring : Ring) (rows : List Vector) (c : List (Term Place)) (k : Place)
    → coefficient_at (place_cmp ring.weights) ring.modulus k (row_combination ring rows c)
    ≡ total ring.modulus (λ t. total ring.modulus (combination_part ring k t) (row_at rows t.at.position)) c

-- the entries of c M are the sums of the products of the entries of c and those of a column of M
abbrev pub SumsProductsOfEntries : Type 0
SumsProductsOfEntries =
    (ring : Ring) → 0 < ring.modulus → (rows : List Vector) (c : List (Term Place)) (j : ℕ) → entry j
    (row_combination ring rows c) ≡ entry_products ring j c 0 rows

-- one coefficient gives the multiple of the row at its position by its monomial
abbrev pub MultipliesRows : Type 0
MultipliesRows =
    (ring : Ring) → 0 < ring.modulus → (rows : List Vector) (t : Term Place)
    → row_combination ring rows (t ∷ [])
    ≡ row_multiple ring (record { at = t.at.monomial; coefficient = t.coefficient }) (row_at rows t.at.position)

-- the combination with a sum of coefficients
abbrev pub IsAdditiveInCoefficients : Type 0
IsAdditiveInCoefficients =
    (ring : Ring) → 0 < ring.modulus → (rows : List Vector) (c d : List (Term Place))
    → row_combination ring rows (row_sum ring c d)
    ≡ row_sum ring (row_combination ring rows c) (row_combination ring rows d)

-- the combination of rows each of which is the sum of two rows
abbrev pub IsAdditiveInRows : Type 0
IsAdditiveInRows =
    (ring : Ring) → 0 < ring.modulus → (sums rows others : List Vector) → ((i : ℕ) → row_at sums i ≡ row_sum ring (row_at rows i) (row_at others i))
    → (c : List (Term Place))
    → row_combination ring sums c ≡ row_sum ring (row_combination ring rows c) (row_combination ring others c)

-- the combination with a multiple of the coefficients
abbrev pub TakesMultiples : Type 0
TakesMultiples =
    (ring : Ring) → 0 < ring.modulus → (rows : List Vector) (s : Term Monomial) (c : List (Term Place))
    → row_combination ring rows (row_multiple ring s c) ≡ row_multiple ring s (row_combination ring rows c)

-- the combination with the negatives of the coefficients
abbrev pub TakesNegatives : Type 0
TakesNegatives =
    (ring : Ring) → 0 < ring.modulus → (rows : List Vector) (c : List (Term Place)) → IsCanonicalRow ring c
    → row_combination ring rows (negative ring.modulus c) ≡ negative ring.modulus (row_combination ring rows c)

-- the combination of the rows of the negative of a matrix
abbrev pub NegatesWithMatrices : Type 0
NegatesWithMatrices =
    (m : Matrix) → 0 < m.ring.modulus → IsMatrix m → (c : List (Term Place))
    → row_combination m.ring (negated m).rows c ≡ negative m.ring.modulus (row_combination m.ring m.rows c)

-- (c M) N is c (M N)
abbrev pub IsAssociativeWithProducts : Type 0
IsAssociativeWithProducts =
    (m n : Matrix) → 0 < m.ring.modulus → (c : List (Term Place))
    → row_combination m.ring n.rows (row_combination m.ring m.rows c)
    ≡ row_combination m.ring (matrix_product m n).rows c

-- a unit vector of coefficients picks a row
abbrev pub PicksRows : Type 0
PicksRows =
    (ring : Ring) → 0 < ring.modulus → (rows : List Vector) (d : ℤ) (i : ℕ) → IsCanonicalRow ring (row_at rows i)
    → row_combination ring rows (unit_vector d i).terms ≡ row_at rows i

-- unit rows give the coefficients back
abbrev pub KeepsWithUnitRows : Type 0
KeepsWithUnitRows =
    (ring : Ring) → 0 < ring.modulus → (degrees : List ℤ)
    (c : List (Term Place)) → IsCanonicalRow ring c → AllByRecursion (λ t. t.at.position < length degrees) c
    → row_combination ring (unit_rows 0 degrees) c ≡ c

-- the combination of rows and further rows is the sum of a combination of each
abbrev pub AddsOverStackedRows : Type 0
AddsOverStackedRows =
    (ring : Ring) → 0 < ring.modulus → (rows more : List Vector) (c d : List (Term Place)) → AllByRecursion
    (λ t. t.at.position < length rows) c
    → row_combination ring (rows ++ more) (c ++ moved (length rows) d)
    ≡ row_sum ring (row_combination ring rows c) (row_combination ring more d)
