-- What one pull, and pulls in turn, do to a source.
use Rattle.std.specs.Prelude.{ℕ, List, length, Option}
use Rattle.std.specs.Io.KnownBytes.{Consumes}
use Rattle.sf_io.specs.Count.{RoseBy}
use Rattle.sf_io.specs.declared.source.Pull.TheVariants.{Got, End, Failed}
use Rattle.sf_io.specs.declared.source.Pull.{Pull}

-- the fact for the number of bytes, where the pull gave some
abbrev pub IfGot : Pull → (ℕ → Type 0) → Type 0
IfGot (Got n) P = P n
IfGot End P = Unit {0}
IfGot Failed P = Unit {0}

-- how many bytes the pull gave
abbrev pub pulled_count : Pull → ℕ
pulled_count (Got n) = n
pulled_count End = 0
pulled_count Failed = 0

-- a source gave these bytes: the next ones of those left, and the number given rose by theirs
pub record Gives {S : Type 0} (left : S → Option (List ℕ)) (given : S → ℕ)
    (old new : S) (bytes : List ℕ) : Type 0 where
  pub next : Consumes (left old) (left new) bytes
  pub counted : RoseBy (length bytes) (given old) (given new)
