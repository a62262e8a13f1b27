-- States with the same accepted headings and the same names, and lines that change neither.
use Rattle.std.specs.Prelude.{◌≡◌, Bool, true, false}
use Rattle.sf_script.specs.Grammar.{Reading, Silent, Malformed, Read}
use Rattle.sf_script.specs.declared.command.Command.TheVariants.{Spectral, Ring, Limit, Module, Map, Complex, Let, Ask, Show, Basis, Syz, Member, Lift, Resolve, Later}
use Rattle.sf_script.specs.declared.command.Command.{Command}
use Rattle.sf_script.specs.declared.heads.Heads.TheVariants.{Unopened, Opened, Within}
use Rattle.sf_script.specs.declared.heads.Heads.{Heads}
use Rattle.sf_session.specs.State.{State}

-- headings with a note, or without one, that another line with a reply came after the ring
abbrev pub with_note : Bool → Heads → Heads
with_note b Unopened = Unopened
with_note b Opened = Opened
with_note b (Within setting) = Within (record setting { noted = b })

-- the accepted headings are the same, be they noted or not, and so are the names; what was looked at may differ
pub record Agree (s t : State) : Type 0 where
  pub heads : with_note false s.env.heads ≡ with_note false t.env.heads
  pub clients : s.env.clients ≡ t.env.clients

-- a line that gives a limit depends on its place among the lines of all clients
abbrev pub gives_limit_command : Command → Bool
gives_limit_command (Spectral version) = false
gives_limit_command (Ring modulus names) = false
gives_limit_command (Limit limit) = true
gives_limit_command (Module name degrees relations) = false
gives_limit_command (Map name source target matrix) = false
gives_limit_command (Complex name maps) = false
gives_limit_command (Let name query) = false
gives_limit_command (Ask query) = false
gives_limit_command (Show name) = false
gives_limit_command (Basis name) = false
gives_limit_command (Syz name) = false
gives_limit_command (Member name vector) = false
gives_limit_command (Lift name vector) = false
gives_limit_command (Resolve name steps) = false
gives_limit_command Later = false

abbrev pub gives_limit : Reading → Bool
gives_limit Silent = false
gives_limit Malformed = false
gives_limit (Read line) = gives_limit_command line.command

-- a line that is neither a heading nor a definition
abbrev pub is_query_command : Command → Bool
is_query_command (Spectral version) = false
is_query_command (Ring modulus names) = false
is_query_command (Limit limit) = false
is_query_command (Module name degrees relations) = false
is_query_command (Map name source target matrix) = false
is_query_command (Complex name maps) = false
is_query_command (Let name query) = false
is_query_command (Ask query) = true
is_query_command (Show name) = true
is_query_command (Basis name) = true
is_query_command (Syz name) = true
is_query_command (Member name vector) = true
is_query_command (Lift name vector) = true
is_query_command (Resolve name steps) = true
is_query_command Later = true

abbrev pub is_query : Reading → Bool
is_query Silent = true
is_query Malformed = true
is_query (Read line) = is_query_command line.command
