-- A source in memory.
use Rattle.std.specs.Prelude.{ℕ, ◌+◌, List, drop}
use Rattle.sf_io.specs.Calls.{Calls, one_call_more, one_fault_more}
use Rattle.sf_io.specs.declared.source.Pull.TheVariants.{Got, End, Failed}
use Rattle.sf_io.specs.declared.source.Pull.{Pull}

-- the bytes that are left, the greatest piece, how many bytes were given, and the calls
pub record SourceInMemory : Type 0 where
  pub rest : List ℕ
  pub piece : ℕ
  pub given : ℕ
  pub calls : Calls

-- the source after a pull
abbrev pub source_after : SourceInMemory → Pull → SourceInMemory
source_after source (Got n) =
    let calls = one_call_more source.calls in
    record source { rest = drop n source.rest; given = source.given + n; calls = calls }
source_after source End = record source { calls = one_call_more source.calls }
source_after source Failed = record source { calls = one_fault_more (one_call_more source.calls) }
