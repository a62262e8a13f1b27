-- What a line leaves for which memory was wanting. (This project's own.)
use Rattle.std.specs.Prelude.{◌≡◌, ◌⊎◌, List, ◌++◌, Result, MatchResult, IsTrue, ℕ}
use Rattle.sf_algebra.specs.Matrices.{Matrix}
use Rattle.sf_matrix.specs.declared.basis.BaseFault.{BaseFault}
use Rattle.sf_matrix.specs.Runs.{Run, IsWhole}
use Rattle.sf_script.specs.Grammar.{Reading, Silent, Malformed, Read, line_of}
use Rattle.sf_script.specs.Refusals.{checked}
use Rattle.sf_script.specs.declared.checked.Checked.{Checked}
use Rattle.sf_session.specs.State.{State, limit_of, noted_state, with_looks}
use Rattle.sf_session.specs.Tasks.{Found, has_list, plan_of}

-- some first matrices of a line's working list were looked at, and the line counts as noted
pub record IsCut (c : Checked) (old new : State) : Type 0 where
  pub list : IsTrue (has_list c)
  pub looked : List Matrix
  pub more : List Matrix
  pub end : Result (Found c) BaseFault
  pub whole : IsWhole end
  pub run : Run (limit_of old.env.heads) (plan_of c) (looked ++ more) end
  pub state : new ≡ noted_state (with_looks looked old)

abbrev pub CutLine : Reading → State → State → Type 0
CutLine Silent old new = ⊥
CutLine Malformed old new = ⊥
CutLine (Read l) old new =
    MatchResult (checked old.env l.client l.command) (λ c. IsCut c old new) (λ fault. ⊥)

-- all is as it was, as where memory was wanting before anything was looked at, or it is left like this
abbrev pub CutStep : State → List ℕ → State → Type 0
CutStep old line new = (new ≡ old) ⊎ CutLine (line_of line) old new
