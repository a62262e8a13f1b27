-- The reply to each line. It is a relation between the state before the line, the line, its reply and the state after it.
use Rattle.std.specs.Prelude.{◌≡◌, ℕ, List, [], Result, Ok, Err, MatchResult}
use Rattle.sf_algebra.specs.Matrices.{Matrix}
use Rattle.sf_grammar.specs.Reaches.{IsColumn}
use Rattle.sf_matrix.specs.declared.basis.BaseFault.TheVariants as ends
use Rattle.sf_matrix.specs.declared.basis.BaseFault.{BaseFault}
use Rattle.sf_matrix.specs.Runs.{Run}
use Rattle.sf_script.specs.Grammar.{Reading, Silent, Malformed, Read, is_line, line_of}
use Rattle.sf_script.specs.Refusals.{checked}
use Rattle.sf_script.specs.declared.checked.Checked.{Checked}
use Rattle.sf_script.specs.declared.command.Command.{Command}
use Rattle.sf_script.specs.declared.fault.LineFault.TheVariants.{Syntax, Large}
use Rattle.sf_session.specs.Outcomes.{outcome, outcome_text, refused, state_after}
use Rattle.sf_session.specs.State.{State, limit_of, variables_of, with_looks}
use Rattle.sf_session.specs.Tasks.{Found, Means, plan_of}
use Rattle.sf_session.specs.declared.outcome.Outcome.TheVariants.{Refuses}
use Rattle.sf_session.specs.declared.outcome.Outcome.{Outcome}

-- this comes of a line of this client: its text, and the state after it
abbrev pub Comes : List ℕ → Outcome → State → List ℕ → State → Type 0
Comes client out old text new = (text ≡ outcome_text (variables_of old.env.heads) out) × (new ≡ state_after client out old)

-- what comes of the end of a plan's run: where all matrices are small, what the definitions say and not what the plan answered; else
-- that one isn't
abbrev pub Given : List ℕ → (c : Checked) → Result (Found c) BaseFault → State → List ℕ → State → Type 0
Given client c (Ok a) old text new = (b : Found c) × Means c b × Comes client (outcome c b) old text new
Given client c (Err ends.Memory) old text new = ⊥
Given client c (Err (ends.Large rows cols)) old text new = Comes client (Refuses (Large rows cols)) old text new

-- a line that no test refused: its plan is run to an end, and the matrices at which it looks were then looked at
pub record Executed (client : List ℕ) (c : Checked) (old : State) (text : List ℕ) (new : State) : Type 0 where
  pub looked : List Matrix
  pub end : Result (Found c) BaseFault
  pub run : Run (limit_of old.env.heads) (plan_of c) looked end
  pub given : Given client c end (with_looks looked old) text new

-- a command of a client: it is refused by the first test that it doesn't pass, or carried out
abbrev pub Carried : List ℕ → Command → State → List ℕ → State → Type 0
Carried client command old text new =
    MatchResult (checked old.env client command)
    (λ c. Executed client c old text new)
    (λ fault. Comes client (refused command fault) old text new)

-- what a line gives: nothing; or the column at which it leaves the grammar; or what its command gives
abbrev pub Answered : List ℕ → Reading → State → List ℕ → State → Type 0
Answered line Silent old text new = (text ≡ []) × (new ≡ old)
Answered line Malformed old text new =
    (column : ℕ) × IsColumn is_line line column × Comes [] (Refuses (Syntax column)) old text new
Answered line (Read l) old text new = Carried l.client l.command old text new

-- one line of a script: the reply with its LF, or nothing where there is none, and the state after it
abbrev pub Step : State → List ℕ → List ℕ → State → Type 0
Step old line text new = Answered line (line_of line) old text new
