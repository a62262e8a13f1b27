-- The output of a script, and what a run of the program leaves.
use Rattle.std.specs.Prelude.{◌≡◌, ℕ, ◌+◌, ◌<◌, ◌≤◌, List, [], ◌∷◌, ◌++◌, length}
use Rattle.sf_session.specs.Replies.{Step}
use Rattle.sf_session.specs.State.{State, start}
use Rattle.sf_grammar.specs.Words.{script_lines}
use Rattle.sf_session.specs.declared.execution.Status.TheVariants.{Done, Usage, ReadFault, WriteFault, Memory, TooLong, Refused}
use Rattle.sf_session.specs.declared.execution.Status.{Status}

-- the replies to some lines, one after another, and the state after the last
abbrev pub Answers : State → List (List ℕ) → List ℕ → State → Type 0
Answers old [] out new = (out ≡ []) × (new ≡ old)
Answers old (line ∷ lines) out new =
    (reply : List ℕ) × (rest : List ℕ) × (mid : State) × Step old line reply mid × Answers mid lines rest new × (out ≡ reply ++ rest)

-- the reply to a line, after these earlier lines
abbrev pub IsReply : List (List ℕ) → List ℕ → List ℕ → Type 0
IsReply earlier line reply =
    (out : List ℕ) × (before : State) × (after : State) × Answers start earlier out before × Step before line reply after

-- the output of a script: the replies to its lines in order
abbrev pub IsOutput : List ℕ → List ℕ → Type 0
IsOutput script out = (end : State) × Answers start (script_lines script) out end

-- the replies to some first lines of a script, whole
abbrev pub IsWholeFront : List ℕ → List ℕ → Type 0
IsWholeFront script out =
    (first : List (List ℕ)) × (others : List (List ℕ)) × (end : State) × (script_lines script ≡ first ++ others) × Answers start first out end

-- a beginning of the replies to some first lines
abbrev pub IsFront : List ℕ → List ℕ → Type 0
IsFront script out = (more : List ℕ) × IsWholeFront script (out ++ more)

-- the greatest number of bytes of a script
abbrev pub LONGEST : ℕ
LONGEST = 1048576

-- what was written when a run over this script ended so
abbrev pub Outcome : Status → List ℕ → List ℕ → Type 0
Outcome Done script out = IsOutput script out
Outcome Usage script out = out ≡ []
Outcome ReadFault script out = out ≡ []
Outcome WriteFault script out = IsFront script out
Outcome Memory script out = IsWholeFront script out
Outcome TooLong script out = (out ≡ []) × (LONGEST < length script)
Outcome Refused script out = ⊥

-- how many bytes a run had read when it ended so
abbrev pub IsReadLength : Status → ℕ → Type 0
IsReadLength Done n = n ≤ LONGEST
IsReadLength Usage n = n ≡ 0
IsReadLength ReadFault n = n ≤ LONGEST
IsReadLength WriteFault n = n ≤ LONGEST
IsReadLength Memory n = n ≤ LONGEST
IsReadLength TooLong n = n ≡ LONGEST + 1
IsReadLength Refused n = ⊥

-- the program's exit status
abbrev pub status_number : Status → ℕ
status_number Done = 0
status_number Usage = 2
status_number ReadFault = 3
status_number WriteFault = 4
status_number Memory = 5
status_number TooLong = 6
status_number Refused = 7
