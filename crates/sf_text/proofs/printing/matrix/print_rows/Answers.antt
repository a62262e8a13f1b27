use Rattle.std.proofs.Common.{◌++◌, ap, ◌∙◌}
use Rattle.sf_algebra.specs.Printing.{semicolon, row_text}
use Rattle.sf_algebra.specs.Vectors.{Vector}
use Rattle.sf_text.proofs.JoinedItems.{joined_from-start, joined_from_more}
use Rattle.sf_text.proofs.printing.matrix.print_rows.Goals as goal

pub loop-i-init : goal.loop-i-init
loop-i-init c =
    ap (λ t. c.push.new.self.items ++ t)
    (joined_from-start (λ (v : Vector). row_text c.args.names.now c.cols-columns.result v.terms) semicolon c.args.m.now.rows)

pub loop-i-preserved : goal.loop-i-preserved
loop-i-preserved c =
    let text_of = λ (v : Vector). row_text c.args.names.now c.cols-columns.result v.terms in
    joined_from_more text_of semicolon c.args.m.now.rows _ _ _ c.loop-i.i _ c.loop-i.invariant c.row.ensures.row
    (c.in_ok-print_row.ensures.ok ∙ ap (λ t. t ++ text_of c.row.result.now) c.in_ok-separate.ensures.ok)
