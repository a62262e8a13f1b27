use Rattle.std.proofs.Common.{◌≡◌, ◌++◌, ℕ, ◌≤◌, drop}
use Rattle.sf_algebra.specs.Printing.{row_text}
use Rattle.sf_algebra.specs.Vectors.{entry}
use Rattle.sf_text.specs.Columns.{IsFromColumn}
use Rattle.sf_text.proofs.PrintedRows.{entries_from}
use Rattle.sf_text.proofs.printing.row.print_row.Given as goal

abbrev pub invariant-loop-column : goal.invariant-loop-column
invariant-loop-column l = record {
  from : IsFromColumn l.column l.next l.row.terms;
  same : (i : ℕ) → l.column ≤ i → entry i (drop l.next l.row.terms) ≡ entry i l.row.terms;
  text : l.text.items ++ entries_from l.names l.columns l.row.terms l.column
      ≡ l.initial.text.items ++ row_text l.names l.columns l.row.terms;
}
