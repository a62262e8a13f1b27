-- The laws of replies and outputs.
use Rattle.std.specs.Prelude.{◌≡◌, ◌↔◌, ℕ, true, false, List, ◌∷◌, ◌++◌}
use Rattle.std.specs.List.{AllByRecursion}
use Rattle.sf_script.specs.Grammar.{line_of}
use Rattle.sf_session.specs.Agreement.{Agree, gives_limit, is_query}
use Rattle.sf_session.specs.Scripts.{Answers, IsReply, IsOutput, IsFront}
use Rattle.sf_session.specs.State.{State, start}

-- after any lines, each line has exactly one reply
abbrev pub HasOneReply : Type 0
HasOneReply = (earlier : List (List ℕ)) (line : List ℕ)
    → ((reply : List ℕ) × IsReply earlier line reply)
    × ((reply other : List ℕ) → IsReply earlier line reply → IsReply earlier line other → reply ≡ other)

-- each script has exactly one output
abbrev pub HasOneOutput : Type 0
HasOneOutput = (script : List ℕ)
    → ((out : List ℕ) × IsOutput script out)
    × ((out other : List ℕ) → IsOutput script out → IsOutput script other → out ≡ other)

-- what was written when a run ended early is a beginning of the output
abbrev pub FrontBeginsOutput : Type 0
FrontBeginsOutput =
    (script front out : List ℕ) → IsFront script front → IsOutput script out → (more : List ℕ) × (out ≡ front ++ more)

-- a line that gives no limit
abbrev pub GivesNoLimit : List ℕ → Type 0
GivesNoLimit line = gives_limit (line_of line) ≡ false

-- the reply to a line that gives no limit is fixed by the accepted headings and the names
abbrev pub IsFixedByNames : Type 0
IsFixedByNames =
    (first others : List (List ℕ)) (s t : State) (out more : List ℕ) → Answers start first out s → Answers start others more t
    → Agree s t → (line : List ℕ) → GivesNoLimit line → (reply : List ℕ) → IsReply first line reply → IsReply others line reply

-- an earlier query changes no later answer, save of lines that give a limit
abbrev pub ChangesNoAnswer : Type 0
ChangesNoAnswer =
    (earlier later : List (List ℕ)) (query line : List ℕ) → is_query (line_of query) ≡ true → AllByRecursion GivesNoLimit later
    → GivesNoLimit line
    → (reply : List ℕ) → IsReply (earlier ++ later) line reply ↔ IsReply (earlier ++ query ∷ later) line reply
