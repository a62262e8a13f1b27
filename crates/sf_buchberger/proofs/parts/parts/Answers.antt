use Rattle.std.proofs.Common.{take}
use Rattle.sf_algebra.specs.Vectors.{IsVector}
use Rattle.sf_algebra.proofs.Basics.Lists.{AllByRecursion-get, take-slice_get}
use Rattle.sf_groebner.specs.Spans.{graph_degrees}
use Rattle.sf_buchberger.proofs.MoreParts.{AreParts-push}
use Rattle.sf_buchberger.proofs.parts.parts.Goals as goal

pub push_parts-requires-clause-vector : goal.push_parts-requires-clause-vector
push_parts-requires-clause-vector c =
    AllByRecursion-get (IsVector c.args.m.now.ring (graph_degrees c.args.m.now)) c.args.rows.now.rows c.loop-i.i
    c.row.result.now c.requires.vectors c.row.ensures.row

pub loop-i-preserved : goal.loop-i-preserved
loop-i-preserved c =
    let m = c.args.m.now in
    let v = c.row.result.now in
    rw (take-slice_get c.args.rows.now.rows c.loop-i.i v c.row.ensures.row)
    (AreParts-push m (take c.loop-i.i c.args.rows.now.rows) v _ _ _ c.loop-i.invariant _ _ _
    c.in_ok-push_parts.ensures.basis c.in_ok-push_parts.ensures.coefficients c.in_ok-push_parts.ensures.syzygies)
