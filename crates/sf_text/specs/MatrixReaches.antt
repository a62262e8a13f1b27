-- How far a text reaches into the matrices that a script writes. At each level it is cut, and its parts are read one after the
-- other: at the caret, the stars, the signs, the commas, the semicolons and the closing bracket. (The grammar is this
-- project's own.)
use Rattle.std.specs.Prelude.{ℕ, zero, suc, max, Bool, false, not, ◌||◌, ◌==◌, if◌then◌else◌, codes, Option, Some, None, is_some, List}
use Rattle.sf_algebra.specs.Printing.{comma, semicolon, star}
use Rattle.sf_grammar.specs.Parts.{Machine, reach_of}
use Rattle.sf_grammar.specs.Reaches.{Free, Reaches}
use Rattle.sf_grammar.specs.WordReaches.{name_reach, digits_reach, number_reach, led_reach, signed_reach}
use Rattle.sf_grammar.specs.Words.{is_filled, is_name, is_number, are_digits}
use Rattle.sf_text.specs.MatrixText.{caret, opening, closing, is_sign, factor_written, term_written, entry_of, row_of, rows_of, matrix_written}
use Rattle.sf_text.specs.declared.matrix_reaches.FactorPart.{FactorPart}
use Rattle.sf_text.specs.declared.matrix_reaches.FactorPart.TheVariants.{Name, Exponent}
use Rattle.sf_text.specs.declared.matrix_reaches.TermPart.{TermPart}
use Rattle.sf_text.specs.declared.matrix_reaches.TermPart.TheVariants.{First, Factor}
use Rattle.sf_text.specs.declared.matrix_reaches.EntryPart.TheVariants.{Term}
use Rattle.sf_text.specs.declared.matrix_reaches.RowPart.TheVariants.{Entry}
use Rattle.sf_text.specs.declared.matrix_reaches.RowsPart.TheVariants.{Row}
use Rattle.sf_text.specs.declared.matrix_reaches.MatrixPart.{MatrixPart}
use Rattle.sf_text.specs.declared.matrix_reaches.MatrixPart.TheVariants.{Rows, End}

-- what is written at each level
abbrev pub is_factor : List ℕ → Bool
is_factor text = is_some (factor_written text)

abbrev pub is_term : List ℕ → Bool
is_term text = is_some (term_written (false, text))

abbrev pub is_entry : List ℕ → Bool
is_entry text = is_some (entry_of text)

abbrev pub is_row : List ℕ → Bool
is_row text = is_some (row_of text)

abbrev pub are_rows : List ℕ → Bool
are_rows text = is_some (rows_of text)

abbrev pub is_matrix : List ℕ → Bool
is_matrix text = is_some (matrix_written text)

-- each part passes one test
abbrev pub each : {S : Type 0} → (List ℕ → Bool) → Machine S
each passes = record { last = λ state part. passes part; next = λ state part. if passes part then Some state else None }

-- a name, and an exponent behind the caret
abbrev pub factor_last : FactorPart → List ℕ → Bool
factor_last Name part = is_name part
factor_last Exponent part = are_digits 3 part

abbrev pub factor_next : FactorPart → List ℕ → Option FactorPart
factor_next Name part = if is_name part then Some Exponent else None
factor_next Exponent part = None

abbrev pub factor_machine : Machine FactorPart
factor_machine = record { last = factor_last; next = factor_next }

abbrev pub factor_part_reach : FactorPart → List ℕ → ℕ
factor_part_reach Name = name_reach
factor_part_reach Exponent = digits_reach 3

abbrev pub factor_reach : List ℕ → ℕ
factor_reach = reach_of factor_machine (λ b. b == caret) factor_part_reach Name

-- a number, behind which six factors may stand, or a factor, behind which five may
abbrev pub term_last : TermPart → List ℕ → Bool
term_last First part = is_number part || is_factor part
term_last (Factor more) part = is_factor part

-- the state behind a factor, where so many may still come
abbrev pub factor_after : ℕ → Option TermPart
factor_after zero = None
factor_after (suc more) = Some (Factor more)

abbrev pub term_next : TermPart → List ℕ → Option TermPart
term_next First part = if is_number part then factor_after 6 else (if is_factor part then factor_after 5 else None)
term_next (Factor more) part = if is_factor part then factor_after more else None

abbrev pub term_machine : Machine TermPart
term_machine = record { last = term_last; next = term_next }

abbrev pub term_part_reach : TermPart → List ℕ → ℕ
term_part_reach First part = max (number_reach part) (factor_reach part)
term_part_reach (Factor more) part = factor_reach part

abbrev pub term_reach : List ℕ → ℕ
term_reach = reach_of term_machine (λ b. b == star) term_part_reach First

-- terms, the first of which may have a minus
abbrev pub entry_reach : List ℕ → ℕ
entry_reach = signed_reach (reach_of (each is_term) is_sign (λ state. term_reach) Term)

abbrev pub row_reach : List ℕ → ℕ
row_reach = reach_of (each is_entry) (λ b. b == comma) (λ state. entry_reach) Entry

abbrev pub rows_reach : List ℕ → ℕ
rows_reach = reach_of (each is_row) (λ b. b == semicolon) (λ state. row_reach) Row

-- rows, and nothing behind the closing bracket
abbrev pub matrix_last : MatrixPart → List ℕ → Bool
matrix_last Rows part = false
matrix_last End part = not (is_filled part)

abbrev pub matrix_next : MatrixPart → List ℕ → Option MatrixPart
matrix_next Rows part = if are_rows part then Some End else None
matrix_next End part = None

abbrev pub matrix_machine : Machine MatrixPart
matrix_machine = record { last = matrix_last; next = matrix_next }

abbrev pub matrix_part_reach : MatrixPart → List ℕ → ℕ
matrix_part_reach Rows = rows_reach
matrix_part_reach End = λ part. 0

abbrev pub matrix_reach : List ℕ → ℕ
matrix_reach = led_reach (λ b. b == opening) (reach_of matrix_machine (λ b. b == closing) matrix_part_reach Rows)

-- the bytes that stand between the parts of a matrix, and a digit and a letter
abbrev pub matrix_bytes : List ℕ
matrix_bytes = codes "[];,+*^0a"

-- it is how far a text reaches, also where certain other bytes may not stand in what goes on behind it
abbrev pub MatricesReach : Type 0
MatricesReach =
    (apart : ℕ → Bool) → Free apart matrix_bytes → (text : List ℕ) → Free apart text
    → Reaches apart is_matrix text (matrix_reach text)
