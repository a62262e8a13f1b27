-- The kinds of words in the lines of the language, and what each is read as.
use Rattle.std.specs.Prelude.{ℕ, Bool, Option, Some, None, if◌then◌else◌, List, length, ℤ}
use Rattle.sf_grammar.specs.Forms.{Kinds}
use Rattle.sf_grammar.specs.WordReaches.{name_reach, number_reach, integer_reach}
use Rattle.sf_grammar.specs.Words.{begins_with, is_name, is_number, number_value, is_integer, integer_value}
use Rattle.sf_script.specs.declared.forms.Kind.TheVariants.{Name, Number, Integer, Matrix, Client}
use Rattle.sf_script.specs.declared.forms.Kind.{Kind}
use Rattle.sf_text.specs.MatrixReaches.{is_matrix, matrix_reach}
use Rattle.sf_text.specs.MatrixText.{matrix_written}
use Rattle.sf_text.specs.declared.raw.RawMatrix.{RawMatrix}

-- what a word of a kind is read as; a client is a word that begins with @, and isn't read
abbrev pub Value : Kind → Type 0
Value Name = List ℕ
Value Number = ℕ
Value Integer = ℤ
Value Matrix = RawMatrix
Value Client = Unit {0}

-- the value of a word, if it is of the kind
abbrev pub word_value : (k : Kind) → List ℕ → Option (Value k)
word_value Name w = if is_name w then Some w else None
word_value Number w = if is_number w then Some (number_value w) else None
word_value Integer w = if is_integer w then Some (integer_value w) else None
word_value Matrix w = matrix_written w
word_value Client w = if begins_with 64 w then Some tt else None

-- whether a word is of a kind
abbrev pub is_of : Kind → List ℕ → Bool
is_of Name w = is_name w
is_of Number w = is_number w
is_of Integer w = is_integer w
is_of Matrix w = is_matrix w
is_of Client w = begins_with 64 w

-- how far a text reaches into the words of a kind
abbrev pub kind_reach : Kind → List ℕ → ℕ
kind_reach Name w = name_reach w
kind_reach Number w = number_reach w
kind_reach Integer w = integer_reach w
kind_reach Matrix w = matrix_reach w
kind_reach Client w = if begins_with 64 w then length w else 0

-- the kinds as forms take them
abbrev pub kinds : Kinds Kind
kinds = record { is_of = is_of; reach = kind_reach }
