-- The calls of a source or a sink in memory.
use Rattle.std.specs.Prelude.{ℕ, ◌+◌, ◌-◌, ◌^◌, ◌<◌, min, List, Contains}

-- the numbers of the calls that fail, counted from 1, and how many calls were made and failed
pub record Calls : Type 0 where
  pub fails : List ℕ
  pub made : ℕ
  pub faults : ℕ

-- the next call's number is in the list, which counts calls up to `u32::MAX`
abbrev pub IsNextListed : Calls → Type 0
IsNextListed calls = (calls.made < 2 ^ 32 - 1) × Contains calls.fails (calls.made + 1)

-- the calls after one more was made
abbrev pub one_call_more : Calls → Calls
one_call_more calls = record calls { made = min (calls.made + 1) (2 ^ 32 - 1) }

-- the calls after the one that was made failed
abbrev pub one_fault_more : Calls → Calls
one_fault_more calls = record calls { faults = min (calls.faults + 1) (2 ^ 64 - 1) }
