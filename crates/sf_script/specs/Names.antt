-- The accepted headings, and what the names of each client stand for.
use Rattle.std.specs.Prelude.{ℕ, Option, List, []}
use Rattle.std.specs.Map.{lookup}
use Rattle.std.specs.Option.{unwrap_or}
use Rattle.std.specs.Str.{bytes_eq}
use Rattle.indexmap.specs.IndexMap.{insert_entry}
use Rattle.sf_script.specs.declared.heads.Heads.TheVariants.{Unopened}
use Rattle.sf_script.specs.declared.heads.Heads.{Heads}
use Rattle.sf_script.specs.declared.named.Named.{Named}

-- the clients in the order of their first definitions, each with its names in the order of theirs
pub record Env : Type 0 where
  pub heads : Heads
  pub clients : List (List ℕ × List (List ℕ × Named))

-- before the first line
abbrev pub no_names : Env
no_names = record { heads = Unopened; clients = [] }

-- the names of a client, none before its first definition
abbrev pub names_of : List ℕ → List (List ℕ × List (List ℕ × Named)) → List (List ℕ × Named)
names_of client clients = unwrap_or (lookup (bytes_eq client) clients) []

-- what a client's name stands for
abbrev pub named : List ℕ → Env → List ℕ → Option Named
named client env name = lookup (bytes_eq name) (names_of client env.clients)

-- a client's name stands for this; all others stay
abbrev pub with_name : List ℕ → List ℕ → Named → Env → Env
with_name client name what env = record env {
  clients = insert_entry bytes_eq env.clients client (insert_entry bytes_eq (names_of client env.clients) name what);
}
