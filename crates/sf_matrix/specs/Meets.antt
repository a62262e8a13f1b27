-- What it means that a call over a table meets a plan: its answer is that of a run of the plan, and the table has grown by the
-- matrices at which the run looked. (This project's own.)
use Rattle.std.specs.Prelude.{◌≡◌, ℕ, List, [], Option, Some, None, slice_get, Result, Ok, Err}
use Rattle.sf_algebra.specs.Matrices.{Matrix}
use Rattle.sf_algebra.specs.Vectors.{Vector}
use Rattle.sf_matrix.specs.declared.basis.BaseFault.{BaseFault}
use Rattle.sf_matrix.specs.Tables.{Table, IsGrown, graph_of}
use Rattle.sf_matrix.specs.Plans.{Plan, look_plan}
use Rattle.sf_matrix.specs.Runs.{Run}

pub record Meets {A : Type 0} (before : Table) (plan : Plan A) (end : Result A BaseFault) (after : Table) : Type 0 where
  pub looked : List Matrix
  pub run : Run before.limit plan looked end
  pub grown : IsGrown before looked after

-- entry k is that of m, whose graph has this reduced basis
abbrev pub IsEntry : Table → ℕ → Matrix → List Vector → Type 0
IsEntry t k m elements = slice_get t.entries k ≡ Some (record { matrix = m; found = Some (graph_of m elements) })

-- one look: it finds the entry of m, or none where m has no rows, or the fault with which the look ends
pub data Looked (before : Table) (m : Matrix) : Result (Option ℕ) BaseFault → Table → Type 0 where
  without_rows : {after : Table}
      → m.rows ≡ [] → Meets before (look_plan m) (Ok []) after → Looked before m (Ok None) after
  with_entry : {after : Table} {k : ℕ} (elements : List Vector)
      → IsEntry after k m elements → Meets before (look_plan m) (Ok elements) after → Looked before m (Ok (Some k)) after
  with_fault : {after : Table} {fault : BaseFault}
      → Meets before (look_plan m) (Err fault) after → Looked before m (Err fault) after

-- where a look at m found this, a later question may go on from it
abbrev pub IsLookOf : Table → Matrix → Option ℕ → Type 0
IsLookOf t m None = m.rows ≡ []
IsLookOf t m (Some k) = (elements : List Vector) × IsEntry t k m elements
