-- The grammar of the lines that are built: a table of commands, each with the words of its lines and what these ask for. (The
-- language is this project's own.)
use Rattle.std.specs.Prelude.{ℕ, ◌≤◌, length, Bool, ◌||◌, ◌++◌, map, if◌then◌else◌, Option, Some, None, List, [], ◌∷◌, codes, IsTrue}
use Rattle.std.specs.Option.{option_map, option_map_or}
use Rattle.std.specs.List.{list_all, list_any}
use Rattle.std.specs.Str.{bytes_eq}
use Rattle.sf_grammar.specs.FormValues.{Values, values, first_of, after}
use Rattle.sf_grammar.specs.Forms.Item.{word, one, many, anything}
use Rattle.sf_grammar.specs.Forms.{Item, fits_some}
use Rattle.sf_grammar.specs.Words.{words, begins_with, is_space}
use Rattle.sf_script.specs.Kinds.{Value, word_value, kinds}
use Rattle.sf_script.specs.declared.command.Command.TheVariants as commands
use Rattle.sf_script.specs.declared.command.Command.{Command}
use Rattle.sf_script.specs.declared.command.Line.{Line}
use Rattle.sf_script.specs.declared.command.Query.TheVariants as asks
use Rattle.sf_script.specs.declared.command.Query.{Query}
use Rattle.sf_script.specs.declared.forms.Kind.TheVariants.{Name, Number, Integer, Matrix, Client}
use Rattle.sf_script.specs.declared.forms.Kind.{Kind}
use Rattle.sf_text.specs.Placed.{is_written_degree}
use Rattle.sf_text.specs.Unknowns.{◌>>=◌}
use Rattle.sf_text.specs.declared.raw.RawMatrix.{RawMatrix}

-- a first word, the items behind it, and what their values make
pub record Row (C : Type 0) : Type 0 where
  pub spelling : List ℕ
  pub items : List (Item Kind)
  pub build : Values Value items → C

-- what a row makes of the words behind its first
abbrev pub row_reading : {C : Type 0} → Row C → List (List ℕ) → Option C
row_reading row ws = option_map row.build (values Value word_value row.items ws)

-- and a table of rows: the row with the first word reads the others
abbrev pub reading : {C : Type 0} → List (Row C) → List ℕ → List (List ℕ) → Option C
reading [] first ws = None
reading (row ∷ rows) first ws = if bytes_eq first row.spelling then row_reading row ws else reading rows first ws

-- spectral VERSION
abbrev pub spectral_row : Row Command
spectral_row =
    record { spelling = codes "spectral"; items = one Integer ∷ []; build = λ v. commands.Spectral v.0 }

-- ring MODULUS NAME .. NAME
abbrev pub ring_row : Row Command
ring_row = record {
  spelling = codes "ring";
  items = one Number ∷ one Name ∷ many Name ∷ [];
  build = λ v. commands.Ring v.0 (v.1.0 ∷ v.1.1.0);
}

-- limit LIMIT
abbrev pub limit_row : Row Command
limit_row = record { spelling = codes "limit"; items = one Integer ∷ []; build = λ v. commands.Limit v.0 }

-- module NAME degrees DEGREE .. DEGREE relations MATRIX
abbrev pub module_row : Row Command
module_row = record {
  spelling = codes "module";
  items = one Name ∷ word (codes "degrees") ∷ many Integer ∷ word (codes "relations") ∷ one Matrix ∷ [];
  build = λ v. commands.Module v.0 v.1.0 v.1.1.0;
}

-- what ends such a line
abbrev pub relations_of : List (List ℕ) → Option RawMatrix
relations_of ws = option_map (λ v. v.0) (values Value word_value (word (codes "relations") ∷ one Matrix ∷ []) ws)

-- map NAME SOURCE TARGET MATRIX
abbrev pub map_row : Row Command
map_row = record {
  spelling = codes "map";
  items = one Name ∷ one Name ∷ one Name ∷ one Matrix ∷ [];
  build = λ v. commands.Map v.0 v.1.0 v.1.1.0 v.1.1.1.0;
}

-- complex NAME maps MAP .. MAP
abbrev pub complex_row : Row Command
complex_row = record {
  spelling = codes "complex";
  items = one Name ∷ word (codes "maps") ∷ one Name ∷ many Name ∷ [];
  build = λ v. commands.Complex v.0 (v.1.0 ∷ v.1.1.0);
}

-- what ends such a line: at least one name
abbrev pub names_behind : List (List ℕ) → Option (List (List ℕ))
names_behind ws = option_map (λ v. v.0 ∷ v.1.0) (values Value word_value (one Name ∷ many Name ∷ []) ws)

-- resolve NAME STEPS
abbrev pub resolve_row : Row Command
resolve_row =
    record { spelling = codes "resolve"; items = one Name ∷ one Integer ∷ []; build = λ v. commands.Resolve v.0 v.1.0 }

-- WORD NAME
abbrev pub named_row : {C : Type 0} → List ℕ → (List ℕ → C) → Row C
named_row spelling build = record { spelling = spelling; items = one Name ∷ []; build = λ v. build v.0 }

-- WORD NAME MATRIX
abbrev pub vector_row : List ℕ → (List ℕ → RawMatrix → Command) → Row Command
vector_row spelling build =
    record { spelling = spelling; items = one Name ∷ one Matrix ∷ []; build = λ v. build v.0 v.1.0 }

-- what stands behind WORD in such lines: a name
abbrev pub name_argument : List (List ℕ) → Option (List ℕ)
name_argument ws = option_map (λ v. v.0) (values Value word_value (one Name ∷ []) ws)

-- a name and a matrix
abbrev pub vector_arguments : List (List ℕ) → Option (List ℕ × RawMatrix)
vector_arguments ws = option_map (λ v. (v.0, v.1.0)) (values Value word_value (one Name ∷ one Matrix ∷ []) ws)

-- what may be asked for by a line of its own, and be given a name
abbrev pub queries : List (Row Query)
queries =
    named_row (codes "kernel") asks.Kernel ∷ named_row (codes "image") asks.Image ∷ named_row (codes "coker") asks.Coker ∷ []

-- a line of its own that asks
abbrev pub ask_row : Row Query → Row Command
ask_row query =
    record { spelling = query.spelling; items = query.items; build = λ v. commands.Ask (query.build v) }

-- the commands that are built, save the lines that give a name to what is asked for
abbrev pub built : List (Row Command)
built =
    spectral_row ∷ ring_row ∷ limit_row ∷ module_row ∷ map_row ∷ complex_row
    ∷ named_row (codes "show") commands.Show
    ∷ named_row (codes "basis") commands.Basis
    ∷ named_row (codes "syz") commands.Syz
    ∷ vector_row (codes "member") commands.Member
    ∷ vector_row (codes "lift") commands.Lift ∷ resolve_row
    ∷ map ask_row queries

-- the command words that the language has and that aren't built yet
abbrev pub later_words : List (List ℕ)
later_words =
    codes "bicomplex" ∷ codes "at" ∷ codes "dh" ∷ codes "dv" ∷ codes "seal"
    ∷ codes "hom" ∷ codes "tensor" ∷ codes "ext" ∷ codes "tor" ∷ codes "page" ∷ codes "diff" ∷ codes "next"
    ∷ codes "total" ∷ codes "filtration" ∷ codes "purity" ∷ codes "witness" ∷ codes "work" ∷ codes "balance"
    ∷ codes "connect" ∷ codes "hyper" ∷ []

-- and the query words
abbrev pub later_queries : List (List ℕ)
later_queries =
    codes "hom" ∷ codes "tensor" ∷ codes "ext" ∷ codes "tor" ∷ codes "page" ∷ codes "total" ∷ []

-- a word is one of these
abbrev pub is_among : List (List ℕ) → List ℕ → Bool
is_among spellings w = list_any (bytes_eq w) spellings

-- the lines with this word aren't built, and what stands behind it isn't read
abbrev pub later_items : List ℕ → List (Item Kind)
later_items spelling = word spelling ∷ anything ∷ []

-- what a line gives a name to: what one of the queries asks for
abbrev pub named_query : List ℕ → List (List ℕ) → Option Command
named_query name [] = None
named_query name (query ∷ ws) =
    if is_among later_queries query then Some commands.Later
    else option_map (λ asked. commands.Let name asked) (reading queries query ws)

-- NAME = QUERY
abbrev pub definition : List (List ℕ) → Option Command
definition ws = do
  named ← first_of (word_value Name) ws
  query ← after (codes "=") named.1
  named_query named.0 query

-- the command of a line's words, if it is one; the lines of named clients, which begin with @, aren't built
abbrev pub command_of : List (List ℕ) → Option Command
command_of [] = None
command_of (first ∷ ws) =
    if begins_with 64 first || is_among later_words first then Some commands.Later
    else (if bytes_eq first (codes "let") then definition ws else reading built first ws)

-- a line with no reply: it is empty, holds only spaces or begins with #
abbrev pub is_silent : List ℕ → Bool
is_silent line = begins_with 35 line || list_all is_space line

-- what a line is
pub data Reading : Type 0 where
  Silent : Reading
  Malformed : Reading
  Read : Line → Reading

-- no client is written yet
abbrev pub without_client : Command → Line
without_client command = record { client = []; command = command }

-- what a line asks for, if it is in the grammar; such a line doesn't begin with a space
abbrev pub written_line : List ℕ → Option Line
written_line line = if begins_with 32 line then None else option_map without_client (command_of (words line))

-- a line is silent, or is read, or isn't in the grammar
abbrev pub line_of : List ℕ → Reading
line_of line = if is_silent line then Silent else option_map_or Read (written_line line) Malformed

-- the form of a row's lines
abbrev pub form_of : {C : Type 0} → Row C → List (Item Kind)
form_of row = word row.spelling ∷ row.items

-- of lines that give a name to what such lines ask for
abbrev pub definition_form : List (Item Kind) → List (Item Kind)
definition_form query = word (codes "let") ∷ one Name ∷ word (codes "=") ∷ query

-- of what a line may give a name to
abbrev pub query_forms : List (List (Item Kind))
query_forms = map (λ (query : Row Query). form_of query) queries ++ map later_items later_queries

-- of all lines: those of named clients, those whose first word isn't built, those that are built, and those that give a name
abbrev pub forms : List (List (Item Kind))
forms =
    (one Client ∷ anything ∷ [])
    ∷ map later_items later_words
    ++ (map (λ (row : Row Command). form_of row) built ++ map definition_form query_forms)

-- a line is in the grammar
abbrev pub is_line : List ℕ → Bool
is_line line = fits_some kinds forms line

-- the degrees of a command have at most six digits, a ring has a variable, and a complex a map
abbrev pub IsWritten : Command → Type 0
IsWritten (commands.Spectral version) = Unit {0}
IsWritten (commands.Ring modulus names) = 1 ≤ length names
IsWritten (commands.Limit limit) = Unit {0}
IsWritten (commands.Module name degrees relations) = IsTrue (list_all is_written_degree degrees)
IsWritten (commands.Map name source target matrix) = Unit {0}
IsWritten (commands.Complex name maps) = 1 ≤ length maps
IsWritten (commands.Let name query) = Unit {0}
IsWritten (commands.Ask query) = Unit {0}
IsWritten (commands.Show name) = Unit {0}
IsWritten (commands.Basis name) = Unit {0}
IsWritten (commands.Syz name) = Unit {0}
IsWritten (commands.Member name vector) = Unit {0}
IsWritten (commands.Lift name vector) = Unit {0}
IsWritten (commands.Resolve name steps) = Unit {0}
IsWritten commands.Later = Unit {0}
