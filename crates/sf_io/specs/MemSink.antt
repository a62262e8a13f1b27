-- A sink in memory.
use Rattle.std.specs.Prelude.{ℕ, ◌-◌, List, ◌++◌, take}
use Rattle.sf_io.specs.Calls.{Calls, one_call_more, one_fault_more}
use Rattle.sf_io.specs.declared.sink.Push.TheVariants.{Took, Failed}
use Rattle.sf_io.specs.declared.sink.Push.{Push}

-- the bytes that were written, the greatest piece, for how many bytes room is left, and the calls
pub record SinkInMemory : Type 0 where
  pub bytes : List ℕ
  pub piece : ℕ
  pub room : ℕ
  pub calls : Calls

-- the sink after a push of this piece
abbrev pub sink_after : SinkInMemory → List ℕ → Push → SinkInMemory
sink_after sink piece (Took n) =
    let calls = one_call_more sink.calls in
    record sink { bytes = sink.bytes ++ take n piece; room = sink.room - n; calls = calls }
sink_after sink piece Failed = record sink { calls = one_fault_more (one_call_more sink.calls) }
