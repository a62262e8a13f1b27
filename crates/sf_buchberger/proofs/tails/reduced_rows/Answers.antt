use Rattle.std.proofs.Common.{take}
use Rattle.sf_algebra.proofs.Basics.Lists.{take-slice_get}
use Rattle.sf_buchberger.proofs.MoreTails.{HaveReducedTails-push}
use Rattle.sf_buchberger.proofs.tails.reduced_rows.Goals as goal

pub loop-i-preserved : goal.loop-i-preserved
loop-i-preserved c =
    let m = c.args.rows.now in
    let v = c.row.result.now in
    rw (take-slice_get m.rows c.loop-i.i v c.row.ensures.row, c.in_ok-push.ensures.items)
    (HaveReducedTails-push m.ring m.target m.rows (take c.loop-i.i m.rows) c.loop-i.reduced.items v _ c.loop-i.invariant c.in_ok-reduced_row.ensures.tail)
