use Rattle.std.proofs.Common.{◌++◌, ◌∷◌, ◌+◌, [], ap, ◌∙◌, drop}
use Rattle.sf_matrix.specs.Columns.{column_lists}
use Rattle.sf_matrix.proofs.Entering.{column_lists-empty}
use Rattle.sf_matrix.proofs.matrix.transpose.empty_columns.Goals as goal

pub loop-preserved : goal.loop-preserved
loop-preserved c =
    let pushed = c.in_ok-push.ensures.items ∙ ap (λ l. c.loop.columns.items ++ l ∷ []) c.new.ensures.empty in
    ap (λ cs. cs ++ column_lists [] (c.loop.index + 1) (drop (c.loop.index + 1) c.args.degrees.now)) pushed
    ∙ column_lists-empty c.loop.columns.items c.loop.index c.args.degrees.now _ c.loop-test.true c.loop.invariant
