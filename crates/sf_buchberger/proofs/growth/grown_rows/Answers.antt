use Rattle.std.proofs.Common.{◌≤◌, length, sym, ◌∙◌, ap, subst}
use Rattle.sf_algebra.specs.Bounds.{GREATEST_SIZE}
use Rattle.sf_algebra.specs.Matrices.{Matrix}
use Rattle.sf_groebner.proofs.Spanning.GraphMatrices.{length-with_units}
use Rattle.sf_buchberger.specs.Loops.{IsLooping, started}
use Rattle.sf_buchberger.proofs.Starts.{IsLooping-start}
use Rattle.sf_buchberger.proofs.growth.grown_rows.Goals as goal

pub start-requires : goal.start-requires
start-requires g c =
    let m = c.args.m.now in
    record {
      few = subst (λ (x : Matrix). length x.rows ≤ GREATEST_SIZE) (sym c.requires.generators)
          (subst (λ n. n ≤ GREATEST_SIZE) (sym (length-with_units (length m.target) m.rows)) c.requires.size.rows);
    }

pub loop-turn-init : goal.loop-turn-init
loop-turn-init g c =
    subst (IsLooping c.args.limit c.args.m.now)
    (sym (c.in_ok-growth.ensures.start ∙ ap started c.requires.generators)) (IsLooping-start c.args.limit c.args.m.now)
