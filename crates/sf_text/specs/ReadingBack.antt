-- A printed matrix reads back as itself: the text of its rows, in brackets, and the degrees before it. The degree of a
-- row stands among these alone, so a row that is 0 is read from the brackets with the degree 0. (The grammar and the way
-- of printing are this project's own.)
use Rattle.std.specs.Prelude.{◌≡◌, ℕ, ◌-◌, ◌<◌, ◌≤◌, ◌^◌, true, Some, None, List, [], ◌∷◌, length, map, take, drop, ℤ}
use Rattle.std.specs.Fmt.{signed_decimal}
use Rattle.std.specs.List.{AllByRecursion, IsDistinct}
use Rattle.std.specs.Str.{bytes_eq}
use Rattle.sf_algebra.specs.Matrices.{Matrix, IsMatrix}
use Rattle.sf_algebra.specs.Monomials.{Monomial, VARIABLES, exponents}
use Rattle.sf_algebra.specs.Printing.{comma, degrees_text, rows_text}
use Rattle.sf_algebra.specs.Rings.{ones, plain}
use Rattle.sf_algebra.specs.Terms.{Term}
use Rattle.sf_algebra.specs.Vectors.{Place, Vector, IsVector, row_degree}
use Rattle.sf_text.specs.MatrixText.{matrix_written}
use Rattle.sf_text.specs.Placed.{relations_of, has_shape, first_fault, is_written_degree}
use Rattle.sf_text.specs.Unknowns.{first_unknown}
use Rattle.sf_grammar.specs.Words.{script_lines, words, parts, is_name, is_integer, integer_value}
use Rattle.sf_text.specs.declared.raw.RawMatrix.{RawMatrix}
use Rattle.sf_text.specs.declared.ring.Ring.{Ring}

-- a ring whose constants and variables the grammar can write: residues of at most 18 digits, and at most six names, all
-- different
pub record IsWritableRing (ring : Ring) : Type 0 where
  pub positive : 0 < ring.modulus
  pub digits : ring.modulus ≤ 10 ^ 18
  pub few : length ring.names ≤ VARIABLES
  pub names : AllByRecursion (λ name. is_name name ≡ true) ring.names
  pub distinct : IsDistinct bytes_eq ring.names

-- a monomial that the grammar can write: exponents of at most three digits, and none of a variable past the ring's
pub record IsWritableMonomial (names : List (List ℕ)) (a : Monomial) : Type 0 where
  pub small : AllByRecursion (λ e. e ≤ 999) (exponents a)
  pub known : AllByRecursion (λ e. e ≡ 0) (drop (length names) (exponents a))

-- the terms of a row stand at such monomials
abbrev pub IsWritableRow : List (List ℕ) → Vector → Type 0
IsWritableRow names v = AllByRecursion (λ (t : Term Place). IsWritableMonomial names t.at.monomial) v.terms

-- a matrix over such a ring, whose terms stand at such monomials
pub record IsWritable (ring : Ring) (m : Matrix) : Type 0 where
  pub writable : IsWritableRing ring
  pub over : m.ring ≡ plain ring.modulus
  pub matrix : IsMatrix m
  pub monomials : AllByRecursion (IsWritableRow ring.names) m.rows

-- the row as the text between the brackets has it: with the degree of its first term, and with 0 where there is none
abbrev pub without_degree : List ℤ → Vector → Vector
without_degree degrees v = record { degree = row_degree ones degrees v.terms; terms = v.terms }

abbrev pub without_row_degrees : Matrix → Matrix
without_row_degrees m = record { ring = m.ring; target = m.target; rows = map (without_degree m.target) m.rows }

-- a text of one line, and of one word
pub record IsOneWord (text : List ℕ) : Type 0 where
  pub line : script_lines text ≡ text ∷ []
  pub word : words text ≡ text ∷ []

-- the text of the rows is a word that the grammar can read, nothing in it is refused over the target of m, and it means
-- this matrix
pub record IsReadAs (ring : Ring) (m read : Matrix) : Type 0 where
  pub raw : RawMatrix
  pub one_word : IsOneWord (rows_text ring.names (length m.target) m.rows)
  pub written : matrix_written (rows_text ring.names (length m.target) m.rows) ≡ Some raw
  pub known : first_unknown ring.names raw.rows ≡ None
  pub shaped : has_shape (length m.target) raw.rows ≡ true
  pub homogeneous : first_fault 1 m.target (relations_of ring m.target raw.rows).rows ≡ None
  pub means : relations_of ring m.target raw.rows ≡ read

-- a printed matrix that has a column reads back as itself, where no row is 0
abbrev pub ReadsBack : Type 0
ReadsBack = (ring : Ring) (m : Matrix) → IsWritable ring m → 0 < length m.target
    → AllByRecursion (λ (v : Vector). 0 < length v.terms) m.rows → IsReadAs ring m m

-- else the degrees of the rows that are 0 are lost, and nothing more
abbrev pub ReadsBackWithoutDegrees : Type 0
ReadsBackWithoutDegrees =
    (ring : Ring) (m : Matrix) → IsWritable ring m → 0 < length m.target → IsReadAs ring m (without_row_degrees m)

-- with no column it reads back as the matrix without rows: the text is [] whatever the number of rows
abbrev pub ReadsBackWithoutRows : Type 0
ReadsBackWithoutRows = (ring : Ring) (m : Matrix) → IsWritable ring m → m.target ≡ []
    → IsReadAs ring m (record { ring = m.ring; target = m.target; rows = [] })

-- a row that isn't 0 has the degree that is read
abbrev pub HasReadDegree : Type 0
HasReadDegree = (p : ℕ) (degrees : List ℤ) (v : Vector) → IsVector (plain p) degrees v → 0 < length v.terms
    → without_degree degrees v ≡ v

-- a degree that is printed is an integer of the grammar, which means it
pub record IsReadDegree (d : ℤ) : Type 0 where
  pub integer : is_integer (signed_decimal d) ≡ true
  pub value : integer_value (signed_decimal d) ≡ d

-- what stands between the first byte and the last
abbrev pub inner : List ℕ → List ℕ
inner text = take (length text - 2) (drop 1 text)

-- between their brackets the degrees of rows or columns stand as integers, one after another
abbrev pub DegreesReadBack : Type 0
DegreesReadBack = (degrees : List ℤ) → 0 < length degrees → AllByRecursion (λ d. is_written_degree d ≡ true) degrees
    → (parts comma (inner (degrees_text degrees)) ≡ map signed_decimal degrees) × AllByRecursion IsReadDegree degrees
