use Rattle.std.proofs.Common.{length, ◌-◌}
use Rattle.sf_io.proofs.PushLemmas.{Takes}
use Rattle.sf_io.proofs.sink.write_all.Given as goal

abbrev pub invariant-loop-at : goal.invariant-loop-at
invariant-loop-at g l =
    let k = g.K.Sink in
    Takes k.written k.faults l.initial.sink l.sink l.bytes l.at

abbrev pub decreases-loop-at : goal.decreases-loop-at
decreases-loop-at g l = length l.bytes - l.at
