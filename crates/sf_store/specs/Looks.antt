-- The matrices that were looked at, as a table: what is kept of each, and what an entry says of its matrix. (This project's
-- own.)
use Rattle.std.specs.Prelude.{◌≡◌, ℕ, ◌≤◌, List, [], ◌∷◌, ◌++◌, length, map, Option, Some, None, Result, Ok, Err}
use Rattle.std.specs.List.{AllByRecursion}
use Rattle.std.specs.Option.{option_map}
use Rattle.sf_algebra.specs.Matrices.{Matrix}
use Rattle.sf_algebra.specs.Vectors.{Vector}
use Rattle.sf_groebner.specs.Small.{IsSmall, IsLarge}
use Rattle.sf_matrix.specs.Tables.{AreDistinct, Entry, Table, graph_of, matrices_of}
use Rattle.sf_matrix.specs.declared.basis.BaseFault.TheVariants.{Memory, Large}
use Rattle.sf_matrix.specs.declared.basis.BaseFault.{BaseFault}
use Rattle.sf_matrix.specs.declared.basis.Graph.{Graph}
use Rattle.sf_buchberger.specs.WholeBases.{IsWholeBasis}
use Rattle.sf_buchberger.specs.declared.whole.GraphBasis.{GraphBasis}
use Rattle.sf_store.specs.declared.looked.Looked.{Looked}

-- the entry of a matrix that was looked at: the elements of the basis are left out
abbrev pub entry_of : Looked → Entry
entry_of l = record { matrix = l.matrix; found = option_map (λ (b : GraphBasis). b.graph) l.basis }

abbrev pub table_of : ℕ → List Looked → Table
table_of limit items = record { limit = limit; entries = map entry_of items }

-- the basis of the graph of m, or none where m is large
abbrev pub IsFoundBasis : ℕ → Matrix → Option GraphBasis → Type 0
IsFoundBasis limit m None = IsLarge limit m
IsFoundBasis limit m (Some b) = IsWholeBasis limit m b

-- what is kept for a limit: bases as they are defined, each of another matrix, and a tick for each
pub record AreLooks (limit : ℕ) (items : List Looked) (ticks : ℕ) : Type 0 where
  pub least : 1 ≤ limit
  pub greatest : limit ≤ 60
  pub found : AllByRecursion (λ (l : Looked). IsFoundBasis limit l.matrix l.basis) items
  pub distinct : AreDistinct (matrices_of (map entry_of items))
  pub counted : ticks ≡ length items

-- what entry k of a table for a limit says of its matrix
abbrev pub Tells : ℕ → ℕ → Entry → Result ℕ BaseFault → Type 0
Tells limit k e (Ok j) =
    (j ≡ k) × ((elements : List Vector) × IsSmall limit e.matrix elements × (e.found ≡ Some (graph_of e.matrix elements)))
Tells limit k e (Err Memory) = ⊥
Tells limit k e (Err (Large rows cols)) =
    (rows ≡ length e.matrix.rows) × (cols ≡ length e.matrix.target) × IsLarge limit e.matrix

-- a last entry was added, for m
pub record HasEntered (before : Table) (m : Matrix) (after : Table) : Type 0 where
  pub found : Option Graph
  pub after_is : after ≡ record { limit = before.limit; entries = before.entries ++ record { matrix = m; found = found } ∷ [] }
