use Rattle.std.proofs.Common.{◌≡◌, ◌++◌, ◌-◌, ◌≤◌, drop, length, ltb}
use Rattle.sf_algebra.specs.Printing.{polynomial_text}
use Rattle.sf_algebra.specs.Vectors.{entry}
use Rattle.sf_text.specs.Columns.{IsFromColumn, SameEntriesPast}
use Rattle.sf_text.proofs.PrintedTerms.{polynomial_from}
use Rattle.sf_text.proofs.printing.row.print_entry.Given as goal

abbrev pub invariant-loop-a : goal.invariant-loop-a
invariant-loop-a l = record {
  onward : l.start ≤ l.next;
  from : IsFromColumn l.column l.next l.row.terms;
  later : SameEntriesPast l.column l.start l.next l.row.terms;
  text :
      l.text.items ++ polynomial_from (ltb l.start l.next) l.names (entry l.column (drop l.next l.row.terms))
      ≡ l.initial.text.items ++ polynomial_text l.names (entry l.column (drop l.start l.row.terms));
}

abbrev pub decreases-loop-a : goal.decreases-loop-a
decreases-loop-a l = length l.row.terms - l.next
