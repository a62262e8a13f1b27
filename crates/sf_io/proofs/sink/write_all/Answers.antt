use Rattle.std.proofs.Common.{arith}
use Rattle.sf_io.proofs.PushLemmas.{Appends-more}
use Rattle.sf_io.proofs.sink.write_all.Goals as goal

pub loop-at-preserved : goal.loop-at-preserved
loop-at-preserved g c =
    let before = c.loop-at.invariant in
    let push = c.in-Took.ensures in
    record {
      within = omega (arith, push.count);
      front = Appends-more _ _ _ _ _ _ before.front push.bytes;
      later = omega arith;
    }
