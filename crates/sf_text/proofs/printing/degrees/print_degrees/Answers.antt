use Rattle.std.proofs.Common.{◌≡◌, ◌++◌, ap, rules, ltb, get_or, pos}
use Rattle.std.specs.Fmt.{signed_decimal}
use Rattle.std.proofs.lemmas.Option.{slice_get-get_or}
use Rattle.sf_algebra.specs.Printing.{comma}
use Rattle.sf_text.specs.Joins.{separator_after}
use Rattle.sf_text.proofs.JoinedItems.{joined_from-start, joined_from_more}
use Rattle.sf_text.proofs.printing.degrees.print_degrees.Goals as goal

pub loop-i-init : goal.loop-i-init
loop-i-init c = ap (λ t. c.push.new.self.items ++ t) (joined_from-start signed_decimal comma c.args.degrees.now)

pub loop-i-preserved : goal.loop-i-preserved
loop-i-preserved c =
    let now : c.print_degree.new.text.items ≡ c.loop-i.text.items ++ separator_after (ltb 0 c.loop-i.i) comma ++ signed_decimal (get_or c.args.degrees.now c.loop-i.i (pos 0)) = search rules in
    joined_from_more signed_decimal comma c.args.degrees.now _ _ _ c.loop-i.i _ c.loop-i.invariant
    (slice_get-get_or c.args.degrees.now c.loop-i.i (pos 0) c.loop-i-test.true) now
