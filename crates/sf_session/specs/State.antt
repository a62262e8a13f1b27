-- What the earlier lines of a script have settled: the headings, what names stand for, and the matrices that were looked at.
use Rattle.std.specs.Prelude.{◌≡◌, ℕ, Bool, true, false, List, []}
use Rattle.sf_algebra.specs.Matrices.{Matrix}
use Rattle.sf_matrix.specs.Tables.{add_all}
use Rattle.sf_script.specs.Headings.{DEFAULT_LIMIT, noted}
use Rattle.sf_script.specs.Names.{Env, no_names}
use Rattle.sf_script.specs.declared.heads.Heads.TheVariants.{Unopened, Opened, Within}
use Rattle.sf_script.specs.declared.heads.Heads.{Heads}

-- the headings and names, and the matrices that were looked at, each once
pub record State : Type 0 where
  pub env : Env
  pub looked : List Matrix

-- before the first line
abbrev pub start : State
start = record { env = no_names; looked = [] }

-- with other headings
abbrev pub with_heads : Heads → State → State
with_heads heads old = record old { env = record old.env { heads = heads } }

-- after a line with a reply that isn't a `limit` line
abbrev pub noted_state : State → State
noted_state old = with_heads (noted old.env.heads) old

-- while a line is carried out: one that has a working list is noted before anything is looked at
abbrev pub begun : Bool → Env → Env
begun true env = record env { heads = noted env.heads }
begun false env = env

abbrev pub looking : Bool → State → State
looking true s = noted_state s
looking false s = s

-- after these matrices were looked at
abbrev pub with_looks : List Matrix → State → State
with_looks ms old = record old { looked = add_all old.looked ms }

-- for what limit matrices are looked at: where none is given yet, for the limit that is taken then
abbrev pub limit_of : Heads → ℕ
limit_of Unopened = DEFAULT_LIMIT
limit_of Opened = DEFAULT_LIMIT
limit_of (Within setting) = setting.limit

-- the names of the ring's variables, none before the ring is given
abbrev pub variables_of : Heads → List (List ℕ)
variables_of Unopened = []
variables_of Opened = []
variables_of (Within setting) = setting.ring.names

-- as long as a limit may be given, nothing was looked at
abbrev pub LooksOnceNoted : Heads → List Matrix → Type 0
LooksOnceNoted Unopened ms = ms ≡ []
LooksOnceNoted Opened ms = ms ≡ []
LooksOnceNoted (Within setting) ms = setting.noted ≡ false → ms ≡ []
