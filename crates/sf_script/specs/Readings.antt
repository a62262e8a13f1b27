-- What reading a line answers.
use Rattle.std.specs.Prelude.{◌≡◌, ℕ, Option, Some, None, Result, Ok, Err, List}
use Rattle.sf_grammar.specs.Reaches.{IsColumn}
use Rattle.sf_script.specs.Grammar.{Silent, Malformed, Read, IsWritten, is_line, line_of}
use Rattle.sf_script.specs.declared.command.Line.{Line}
use Rattle.sf_text.specs.declared.matrix_text.ReadText.TheVariants.{Syntax, Memory}
use Rattle.sf_text.specs.declared.matrix_text.ReadText.{ReadText}

-- a line without a reply, a line of the grammar, or the column at which it leaves the grammar; want of memory says nothing
abbrev pub IsReading : List ℕ → Result (Option Line) ReadText → Type 0
IsReading text (Ok None) = line_of text ≡ Silent
IsReading text (Ok (Some line)) = (line_of text ≡ Read line) × IsWritten line.command
IsReading text (Err (Syntax col)) = (line_of text ≡ Malformed) × IsColumn is_line text col
IsReading text (Err Memory) = Unit {0}
