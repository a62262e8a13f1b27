-- A text is read, or it is told at which column it leaves the grammar. (This project's own.)
use Rattle.std.specs.Prelude.{◌≡◌, ℕ, Result, Ok, Err, List, None, Some}
use Rattle.sf_grammar.specs.Reaches.{IsColumn}
use Rattle.sf_text.specs.MatrixText.{matrix_written}
use Rattle.sf_text.specs.MatrixReaches.{is_matrix}
use Rattle.sf_text.specs.declared.raw.RawMatrix.{RawMatrix}
use Rattle.sf_text.specs.declared.matrix_text.ReadText.{ReadText}
use Rattle.sf_text.specs.declared.matrix_text.ReadText.TheVariants.{Syntax, Memory}

-- no text that is read is longer
abbrev pub LONGEST_TEXT : ℕ
LONGEST_TEXT = 1048576

-- the matrix that the text writes, or where it writes none, the column at which it leaves the matrices
abbrev pub IsMatrixRead : List ℕ → Result RawMatrix ReadText → Type 0
IsMatrixRead text (Ok matrix) = matrix_written text ≡ Some matrix
IsMatrixRead text (Err (Syntax column)) = (matrix_written text ≡ None) × IsColumn is_matrix text column
IsMatrixRead text (Err Memory) = Unit {0}
