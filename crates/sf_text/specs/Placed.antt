-- What a matrix means that a script writes, in a ring and over a free module.
use Rattle.std.specs.Prelude.{ℕ, Bool, false, ◌+◌, ◌≤◌, ◌%◌, ◌&&◌, ◌||◌, ◌==◌, if◌then◌else◌, Option, Some, None, List, [], ◌∷◌, ◌++◌, length, map, slice_index_or, sum_by, ℤ, pos, neg_ℤ, int_le}
use Rattle.std.specs.Ordering.{int_eq}
use Rattle.std.specs.List.{list_all}
use Rattle.std.specs.Str.{bytes_eq}
use Rattle.sf_algebra.specs.Matrices.{Matrix}
use Rattle.sf_algebra.specs.Monomials.{Monomial, exponent_sum, from_exponents}
use Rattle.sf_algebra.specs.Residues.{negative_mod}
use Rattle.sf_algebra.specs.Rings.{plain, ones}
use Rattle.sf_algebra.specs.Sums.{normal}
use Rattle.sf_algebra.specs.Terms.{Term}
use Rattle.sf_algebra.specs.Vectors.{Place, Vector, place_cmp, place_degree, row_degree}
use Rattle.sf_text.specs.Raw.{RawTerm}
use Rattle.sf_text.specs.declared.ring.Ring.{Ring}

-- the sum of a variable's exponents in some factors
abbrev pub exponent_in : List (List ℕ × ℕ) → List ℕ → ℕ
exponent_in factors name = sum_by (λ (f : List ℕ × ℕ). if bytes_eq f.0 name then f.1 else 0) factors

-- the product of some factors, in the ring with these variables
abbrev pub monomial_of : List (List ℕ) → List (List ℕ × ℕ) → Monomial
monomial_of names factors = from_exponents (map (exponent_in factors) names)

-- the greatest sum of the exponents of such a product, of at most six factors with exponents of at most three digits, where a
-- variable may stand several times among the names
abbrev pub GREATEST_WRITTEN_SUM : ℕ
GREATEST_WRITTEN_SUM = 35964

-- the exponents of a term have at most this sum
abbrev pub IsWrittenTerm : Term Place → Type 0
IsWrittenTerm t = exponent_sum t.at.monomial ≤ GREATEST_WRITTEN_SUM

-- the residue of a coefficient with its sign
abbrev pub residue_of : ℕ → RawTerm → ℕ
residue_of p t = if t.minus then negative_mod p (t.coefficient % p) else t.coefficient % p

-- a term at a column
abbrev pub placed_term : Ring → ℕ → RawTerm → Term Place
placed_term ring column t = record {
  at = record { position = column; monomial = monomial_of ring.names t.factors };
  coefficient = residue_of ring.modulus t;
}

-- the terms of the entries from a column on
abbrev pub placed_terms : Ring → ℕ → List (List RawTerm) → List (Term Place)
placed_terms ring column [] = []
placed_terms ring column (entry ∷ entries) =
    map (placed_term ring column) entry ++ placed_terms ring (column + 1) entries

-- a row: equal terms meet, zeros vanish, and it has the degree of its greatest term
abbrev pub row_vector : Ring → List ℤ → List (List RawTerm) → Vector
row_vector ring degrees entries =
    let terms = normal (place_cmp ones) ring.modulus (placed_terms ring 0 entries) in
    record { degree = row_degree ones degrees terms; terms = terms }

-- the matrix with these rows over the free module with these degrees
abbrev pub relations_of : Ring → List ℤ → List (List (List RawTerm)) → Matrix
relations_of ring degrees rows = record {
  ring = plain ring.modulus;
  target = degrees;
  rows = map (row_vector ring degrees) rows;
}

-- the entries of the row with this number; where no row is written there are none
abbrev pub row_at : List (List (List RawTerm)) → ℕ → List (List RawTerm)
row_at rows i = slice_index_or rows i []

-- a row of this degree: equal terms meet, and zeros vanish
abbrev pub row_of_degree : Ring → ℤ → List (List RawTerm) → Vector
row_of_degree ring degree entries =
    record { degree = degree; terms = normal (place_cmp ones) ring.modulus (placed_terms ring 0 entries) }

-- a row of each of these degrees, from row number i on
abbrev pub rows_of_degrees : Ring → List (List (List RawTerm)) → ℕ → List ℤ → List Vector
rows_of_degrees ring rows i [] = []
rows_of_degrees ring rows i (degree ∷ degrees) =
    row_of_degree ring degree (row_at rows i) ∷ rows_of_degrees ring rows (i + 1) degrees

-- the matrix from the free module with the first degrees to that with the second
abbrev pub matrix_between : Ring → List ℤ → List ℤ → List (List (List RawTerm)) → Matrix
matrix_between ring source target rows = record {
  ring = plain ring.modulus;
  target = target;
  rows = rows_of_degrees ring rows 0 source;
}

-- each row has an entry for each generator
abbrev pub has_shape : ℕ → List (List (List RawTerm)) → Bool
has_shape columns = list_all (λ (row : List (List RawTerm)). length row == columns)

-- a matrix has so many rows and columns; where one of the numbers is 0 it is written without rows
abbrev pub has_size : ℕ → ℕ → List (List (List RawTerm)) → Bool
has_size count columns [] = (count == 0) || (columns == 0)
has_size count columns (row ∷ rows) = (length (row ∷ rows) == count) && has_shape columns (row ∷ rows)

-- a matrix has one row of so many columns; over no column it is written as one without rows
abbrev pub is_single_row : ℕ → List (List (List RawTerm)) → Bool
is_single_row columns [] = columns == 0
is_single_row columns (row ∷ []) = length row == columns
is_single_row columns (row ∷ other ∷ rows) = false

-- the entries of the first row, where there is one
abbrev pub first_row : List (List (List RawTerm)) → List (List RawTerm)
first_row [] = []
first_row (row ∷ rows) = row

-- all terms of a vector have its degree
abbrev pub is_homogeneous : List ℤ → Vector → Bool
is_homogeneous degrees v = list_all (λ t. int_eq (place_degree ones degrees t.at) v.degree) v.terms

-- the number of the first row that isn't homogeneous, where the first of these rows has this number
abbrev pub first_fault : ℕ → List ℤ → List Vector → Option ℕ
first_fault i degrees [] = None
first_fault i degrees (v ∷ vs) = if is_homogeneous degrees v then first_fault (i + 1) degrees vs else Some i

-- a degree of at most six digits
abbrev pub is_written_degree : ℤ → Bool
is_written_degree d = int_le (neg_ℤ (pos 999999)) d && int_le d (pos 999999)
