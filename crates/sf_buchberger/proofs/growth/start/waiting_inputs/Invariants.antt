use Rattle.std.proofs.Common.{◌≡◌, take}
use Rattle.sf_buchberger.specs.QueuedPairs.{queued_inputs}
use Rattle.sf_buchberger.proofs.growth.start.waiting_inputs.Given as goal

abbrev pub invariant-loop-k : goal.invariant-loop-k
invariant-loop-k l = l.waiting ≡ queued_inputs 0 (take l.k l.generators.rows)
