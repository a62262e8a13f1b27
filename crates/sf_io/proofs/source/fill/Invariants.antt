use Rattle.std.proofs.Common.{length, ◌-◌}
use Rattle.sf_io.proofs.PullLemmas.{Fills}
use Rattle.sf_io.proofs.source.fill.Given as goal

abbrev pub invariant-loop-filled : goal.invariant-loop-filled
invariant-loop-filled g l =
    let s = g.S.Source in
    Fills s.left s.given s.faults l.initial.source l.source l.room l.filled

abbrev pub decreases-loop-filled : goal.decreases-loop-filled
decreases-loop-filled g l = length l.initial.room - l.filled
