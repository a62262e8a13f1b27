use Rattle.std.proofs.Common.{◌≡◌, ◌++◌, ap, ◌∙◌, rules, ltb}
use Rattle.std.specs.Option.{option_map}
use Rattle.std.specs.Fmt.{signed_decimal}
use Rattle.std.proofs.lemmas.Option.{slice_get-map}
use Rattle.sf_algebra.specs.Matrices.{row_degrees}
use Rattle.sf_algebra.specs.Printing.{comma}
use Rattle.sf_algebra.specs.Vectors.{Vector}
use Rattle.sf_text.specs.Joins.{separator_after}
use Rattle.sf_text.proofs.JoinedItems.{joined_from-start, joined_from_more}
use Rattle.sf_text.proofs.printing.degrees.print_row_degrees.Goals as goal

pub loop-i-init : goal.loop-i-init
loop-i-init c = ap (λ t. c.push.new.self.items ++ t) (joined_from-start signed_decimal comma (row_degrees c.args.m.now))

pub loop-i-preserved : goal.loop-i-preserved
loop-i-preserved c =
    let degree =
    slice_get-map (λ (v : Vector). v.degree) c.args.m.now.rows c.loop-i.i
    ∙ ap (option_map (λ (v : Vector). v.degree)) c.row.ensures.row in
    let now : c.print_degree.new.text.items ≡ c.loop-i.text.items ++ separator_after (ltb 0 c.loop-i.i) comma ++ signed_decimal c.row.result.now.degree = search rules in
    joined_from_more signed_decimal comma (row_degrees c.args.m.now) _ _ _ c.loop-i.i _ c.loop-i.invariant degree now
