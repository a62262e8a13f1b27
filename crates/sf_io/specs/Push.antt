-- What one push does to a sink.
use Rattle.std.specs.Prelude.{ℕ}
use Rattle.sf_io.specs.declared.sink.Push.TheVariants.{Took, Failed}
use Rattle.sf_io.specs.declared.sink.Push.{Push}

-- the fact for the number of bytes, where the push took some
abbrev pub IfTook : Push → (ℕ → Type 0) → Type 0
IfTook (Took n) P = P n
IfTook Failed P = Unit {0}

-- how many bytes the push took
abbrev pub pushed_count : Push → ℕ
pushed_count (Took n) = n
pushed_count Failed = 0
