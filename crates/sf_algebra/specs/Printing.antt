-- How degrees, polynomials and matrices print. A name is the list of its bytes; names gives the ring's variables in
-- order.
use Rattle.std.specs.Prelude.{ℕ, zero, suc, ◌==◌, if◌then◌else◌, List, [], ◌∷◌, ◌++◌, length, map, ℤ, codes, decimal}
use Rattle.std.specs.Fmt.{signed_decimal}
use Rattle.std.specs.List.{join_with_byte, range_with_len}
use Rattle.sf_algebra.specs.Matrices.{Matrix, row_degrees}
use Rattle.sf_algebra.specs.Monomials.{Monomial, exponents, exponent_sum}
use Rattle.sf_algebra.specs.Terms.{Term}
use Rattle.sf_algebra.specs.Vectors.{Place, Vector, entry}

abbrev pub comma : ℕ
comma = 44

abbrev pub semicolon : ℕ
semicolon = 59

abbrev pub plus : ℕ
plus = 43

abbrev pub star : ℕ
star = 42

-- a free module: (d1,..,dk)
abbrev pub degrees_text : List ℤ → List ℕ
degrees_text degrees = codes "(" ++ join_with_byte comma (map signed_decimal degrees) ++ codes ")"

-- a power of a variable other than its zeroth: NAME or NAME^EXPONENT
abbrev pub power_text : List ℕ → ℕ → List ℕ
power_text name e = if e == 1 then name else name ++ codes "^" ++ decimal e

-- the powers of which a monomial is the product, in the ring's order of variables
abbrev pub factor_texts : List (List ℕ) → List ℕ → List (List ℕ)
factor_texts [] es = []
factor_texts (name ∷ names) [] = []
factor_texts (name ∷ names) (e ∷ es) =
    if e == 0 then factor_texts names es else power_text name e ∷ factor_texts names es

-- a term: its coefficient, left out where it is 1 before a monomial other than 1, and its factors
abbrev pub term_text : List (List ℕ) → Term Monomial → List ℕ
term_text names t =
    let factors = factor_texts names (exponents t.at) in
    join_with_byte star (if t.coefficient == 1 then (if exponent_sum t.at == 0 then codes "1" ∷ [] else factors) else decimal t.coefficient ∷ factors)

-- a polynomial: its terms in descending order, or 0
abbrev pub polynomial_text : List (List ℕ) → List (Term Monomial) → List ℕ
polynomial_text names [] = codes "0"
polynomial_text names (t ∷ ts) = join_with_byte plus (map (term_text names) (t ∷ ts))

-- a row of a matrix with this many columns
abbrev pub row_text : List (List ℕ) → ℕ → List (Term Place) → List ℕ
row_text names columns ts =
    join_with_byte comma (map (λ i. polynomial_text names (entry i ts)) (range_with_len 0 columns))

-- the rows in brackets; [] also where there are no columns
abbrev pub rows_text : List (List ℕ) → ℕ → List Vector → List ℕ
rows_text names zero rows = codes "[]"
rows_text names (suc columns) rows =
    codes "[" ++ join_with_byte semicolon (map (λ v. row_text names (suc columns) v.terms) rows) ++ codes "]"

-- a matrix: ROWS->COLUMNS ENTRIES, the degrees of its rows and of its columns first
abbrev pub matrix_text : List (List ℕ) → Matrix → List ℕ
matrix_text names m =
    degrees_text (row_degrees m) ++ codes "->" ++ degrees_text m.target ++ codes " " ++ rows_text names
    (length m.target) m.rows
