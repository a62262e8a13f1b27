-- What holds of homogeneous vectors: sums, negatives, multiples and combinations are such vectors. (Any textbook of
-- graded modules.)
use Rattle.std.specs.Prelude.{◌≡◌, ◌<◌, List, ℤ, pos, ◌+ℤ◌}
use Rattle.sf_algebra.specs.DegreeParts.{degree_part}
use Rattle.sf_algebra.specs.Matrices.{Matrix, IsMatrix, row_degrees}
use Rattle.sf_algebra.specs.MatrixOperations.{row_combination}
use Rattle.sf_algebra.specs.Monomials.{Monomial, monomial_degree}
use Rattle.sf_algebra.specs.Multiples.{negative}
use Rattle.sf_algebra.specs.Rings.{Ring}
use Rattle.sf_algebra.specs.Terms.{Term}
use Rattle.sf_algebra.specs.VectorOperations.{row_sum, row_multiple}
use Rattle.sf_algebra.specs.Vectors.{Place, Vector, IsVector, IsCanonicalRow}

-- the sum of two vectors of one degree
abbrev pub HasHomogeneousSums : Type 0
HasHomogeneousSums =
    (ring : Ring) → 0 < ring.modulus → (degrees : List ℤ) (d : ℤ) (us vs : List (Term Place))
    → IsVector ring degrees (record { degree = d; terms = us })
    → IsVector ring degrees (record { degree = d; terms = vs })
    → IsVector ring degrees (record { degree = d; terms = row_sum ring us vs })

-- the negative of a vector
abbrev pub HasHomogeneousNegatives : Type 0
HasHomogeneousNegatives =
    (ring : Ring) (degrees : List ℤ) (d : ℤ) (us : List (Term Place))
    → IsVector ring degrees (record { degree = d; terms = us })
    → IsVector ring degrees (record { degree = d; terms = negative ring.modulus us })

-- a multiple has the sum of the degrees
abbrev pub AddsDegrees : Type 0
AddsDegrees =
    (ring : Ring) → 0 < ring.modulus → (degrees : List ℤ) (d : ℤ) (s : Term Monomial)
    (us : List (Term Place)) → IsVector ring degrees (record { degree = d; terms = us })
    → IsVector ring degrees
    (record { degree = d +ℤ pos (monomial_degree ring.weights s.at); terms = row_multiple ring s us })

-- a vector over the rows of a matrix times the matrix
abbrev pub HasHomogeneousCombinations : Type 0
HasHomogeneousCombinations =
    (m : Matrix) → 0 < m.ring.modulus → IsMatrix m → (c : Vector) → IsVector m.ring (row_degrees m) c
    → IsVector m.ring m.target (record { degree = c.degree; terms = row_combination m.ring m.rows c.terms })

-- a vector that is a combination of the rows is also the combination with those coefficients alone that have its degree
abbrev pub NeedsCoefficientsOfItsDegree : Type 0
NeedsCoefficientsOfItsDegree =
    (m : Matrix) → 0 < m.ring.modulus → IsMatrix m → (v : Vector) → IsVector m.ring m.target v
    → (c : List (Term Place)) → row_combination m.ring m.rows c ≡ v.terms
    → row_combination m.ring m.rows (degree_part m.ring.weights (row_degrees m) v.degree c) ≡ v.terms

-- the part of a vector that has a given degree is a homogeneous vector
abbrev pub HasHomogeneousParts : Type 0
HasHomogeneousParts =
    (ring : Ring) (degrees : List ℤ) (d : ℤ) (ts : List (Term Place)) → IsCanonicalRow ring ts
    → IsVector ring degrees (record { degree = d; terms = degree_part ring.weights degrees d ts })
