use Rattle.std.proofs.Common.{arith}
use Rattle.sf_io.proofs.PullLemmas.{drop-copied}
use Rattle.sf_io.proofs.memory_source.MemSourceSource.pull.Goals as goal

pub returns-clause-bytes : goal.returns-clause-bytes
returns-clause-bytes c =
    let source = c.self.inside in
    let count = rw c.deref.ensures.value at c.min-count.ensures in
    rw (← c.self.view_is)
    (drop-copied source.bytes.items c.args.room.now c.copy_from_slice.new.self source.at c.min-count.result
    (omega (arith, count))
    (rw c.deref.ensures.value at c.copy_from_slice.ensures.after))
