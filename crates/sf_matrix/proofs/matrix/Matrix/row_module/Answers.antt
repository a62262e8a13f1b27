use Rattle.std.proofs.Common.{rules}
use Rattle.sf_algebra.specs.Vectors.{Vector}
use Rattle.sf_matrix.proofs.Pieces.{map-take}
use Rattle.sf_matrix.proofs.matrix.Matrix.row_module.Goals as goal

pub loop-i-preserved : goal.loop-i-preserved
loop-i-preserved c =
    let row = map-take (λ (v : Vector). v.degree) c.args.self.now.rows c.loop-i.i c.row.result.now c.row.ensures.row in
    rw (c.in_ok-push.ensures.ok, c.loop-i.invariant, c.degree.ensures.degree, row) (search rules)
