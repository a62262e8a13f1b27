-- Whether a generator or a pair comes next: what waits with the least degree. (Cox, Little, O'Shea, "Ideals,
-- Varieties, and Algorithms", chapter 2, section 10.)
use Rattle.std.specs.Prelude.{ℕ, List}
use Rattle.sf_pairs.specs.Queue.{QueuedPair, count_least}
use Rattle.sf_buchberger.specs.QueuedPairs.{IsFirst}
use Rattle.sf_buchberger.specs.declared.growth.choice.Turn.TheVariants.{Generator, Pair}
use Rattle.sf_buchberger.specs.declared.growth.choice.Turn.{Turn}

-- of the generators and the pairs that wait, those have the least degree whose turn it is
abbrev pub IsTurn : List QueuedPair → List QueuedPair → Turn → Type 0
IsTurn waiting pairs Generator = IsFirst waiting pairs
IsTurn waiting pairs Pair = IsFirst pairs waiting

-- how many of these have it
abbrev pub count_at : List QueuedPair → List QueuedPair → Turn → ℕ
count_at waiting pairs Generator = count_least waiting
count_at waiting pairs Pair = count_least pairs
