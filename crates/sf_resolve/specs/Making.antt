-- What is said of steps that are made behind others. (This project's own.)
use Rattle.std.specs.Prelude.{◌≡◌, ℕ, ◌+◌, ◌≤◌, max, List, ◌++◌, length, take, Result, Ok, Err}
use Rattle.sf_algebra.specs.Matrices.{Matrix}
use Rattle.sf_matrix.specs.declared.basis.BaseFault.{BaseFault}

-- some steps and maybe more, none of them past step k
pub record AreMoreUpTo (before : List Matrix) (k : ℕ) (after : List Matrix) : Type 0 where
  pub more : List Matrix
  pub steps : after ≡ before ++ more
  pub few : length before + length more ≤ max k (length before)

-- the first k steps, unless there was a fault
abbrev pub first_told : ℕ → List Matrix → Result (Unit {0}) BaseFault → Result (List Matrix) BaseFault
first_told k steps (Err fault) = Err fault
first_told k steps (Ok done) = Ok (take k steps)
