use Rattle.std.proofs.Common.{true, IsFalse, slice_index_or, take}
use Rattle.std.specs.List.{AllByRecursion}
use Rattle.sf_dense.specs.Entries.{Entry}
use Rattle.sf_buchberger.proofs.counted.finish.have_raised.Given as goal

abbrev pub invariant-loop-entry : goal.invariant-loop-entry
invariant-loop-entry l =
    AllByRecursion (λ (e : Entry). IsFalse (slice_index_or l.flags e.cell true)) (take l.entry-index l.entries)
