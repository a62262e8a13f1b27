-- What holds of runs of plans: there is one, and only one. (This project's own.)
use Rattle.std.specs.Prelude.{ℕ, List, Result}
use Rattle.sf_algebra.specs.Matrices.{Matrix}
use Rattle.sf_algebra.specs.Vectors.{Vector}
use Rattle.sf_matrix.specs.declared.basis.BaseFault.{BaseFault}
use Rattle.sf_matrix.specs.Plans.{Plan}
use Rattle.sf_matrix.specs.Runs.{Run, IsWhole, Agrees}

-- for each limit a plan has a run to its end
abbrev pub HasRuns : Type 0 → Type 0
HasRuns A =
    (limit : ℕ) (plan : Plan A) → (looked : List Matrix) × (end : Result A BaseFault) × IsWhole end × Run limit plan looked end

-- and any other run agrees with it
abbrev pub HasOneRun : Type 0 → Type 0
HasOneRun A =
    (limit : ℕ) (plan : Plan A) (looked others : List Matrix) (end other : Result A BaseFault)
    → Run limit plan looked end → IsWhole end → Run limit plan others other → Agrees looked end others other

-- so it is for plans that answer with vectors, with matrices, and with nothing
pub record HaveOneRun : Type 0 where
  pub vectors_exist : HasRuns (List Vector)
  pub vectors_unique : HasOneRun (List Vector)
  pub matrices_exist : HasRuns (List Matrix)
  pub matrices_unique : HasOneRun (List Matrix)
