use Rattle.std.proofs.Common.{arith}
use Rattle.sf_io.proofs.PullLemmas.{Gives-nil, Gives-more}
use Rattle.sf_io.proofs.source.fill.Goals as goal

pub loop-filled-init : goal.loop-filled-init
loop-filled-init g c =
    let s = g.S.Source in
    record { within = omega arith; gives = Gives-nil s.left s.given _ c.args.room.now; later = omega arith }

pub loop-filled-preserved : goal.loop-filled-preserved
loop-filled-preserved g c =
    let s = g.S.Source in
    let before = c.loop-filled.invariant in
    let pull = c.in-Got.ensures in
    record {
      within = omega (arith, pull.count);
      gives = Gives-more s.left s.given _ _ _ _ _ _ _ before.gives before.within pull.kept
          pull.bytes pull.given (omega (arith, pull.count));
      later = omega arith;
    }
