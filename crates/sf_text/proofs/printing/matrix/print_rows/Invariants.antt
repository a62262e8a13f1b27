use Rattle.std.proofs.Common.{◌≡◌, ◌++◌, map}
use Rattle.std.specs.List.{join_with_byte}
use Rattle.sf_algebra.specs.Printing.{semicolon, row_text}
use Rattle.sf_algebra.specs.Vectors.{Vector}
use Rattle.sf_text.proofs.JoinedItems.{joined_from}
use Rattle.sf_text.proofs.printing.matrix.print_rows.Given as goal

abbrev pub invariant-loop-i : goal.invariant-loop-i
invariant-loop-i l =
    let text_of = λ (v : Vector). row_text l.names l.columns v.terms in
    l.text.items ++ joined_from text_of semicolon l.m.rows l.i ≡ l.initial.text.items ++ join_with_byte semicolon
    (map text_of l.m.rows)
