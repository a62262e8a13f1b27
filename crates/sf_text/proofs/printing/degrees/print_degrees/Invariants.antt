use Rattle.std.proofs.Common.{◌≡◌, ◌++◌, map}
use Rattle.std.specs.Fmt.{signed_decimal}
use Rattle.std.specs.List.{join_with_byte}
use Rattle.sf_algebra.specs.Printing.{comma}
use Rattle.sf_text.proofs.JoinedItems.{joined_from}
use Rattle.sf_text.proofs.printing.degrees.print_degrees.Given as goal

abbrev pub invariant-loop-i : goal.invariant-loop-i
invariant-loop-i l =
    l.text.items ++ joined_from signed_decimal comma l.degrees l.i ≡ l.initial.text.items ++ join_with_byte comma
    (map signed_decimal l.degrees)
