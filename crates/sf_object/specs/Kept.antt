-- What a table keeps of a plan: its answer, and all matrices at which it looks. (This project's own.)
use Rattle.std.specs.Prelude.{◌≡◌, true, List, Ok}
use Rattle.std.specs.List.{AllByRecursion}
use Rattle.sf_algebra.specs.Matrices.{Matrix}
use Rattle.sf_matrix.specs.Plans.{Plan}
use Rattle.sf_matrix.specs.Runs.{Run}
use Rattle.sf_matrix.specs.Tables.{Table, is_among, matrices_of}

-- the plan answers a for the table's limit, and each of the matrices at which it looks has an entry: to look again would add nothing
pub record IsKept {A : Type 0} (t : Table) (plan : Plan A) (a : A) : Type 0 where
  pub looked : List Matrix
  pub run : Run t.limit plan looked (Ok a)
  pub there : AllByRecursion (λ (m : Matrix). is_among m (matrices_of t.entries) ≡ true) looked
