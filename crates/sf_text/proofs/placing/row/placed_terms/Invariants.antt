use Rattle.std.proofs.Common.{◌≡◌, ◌++◌, drop}
use Rattle.std.specs.List.{AllByRecursion}
use Rattle.sf_text.specs.Placed.{IsWrittenTerm, placed_terms}
use Rattle.sf_text.proofs.placing.row.placed_terms.Given as goal

abbrev pub invariant-loop-column : goal.invariant-loop-column
invariant-loop-column l =
    (l.terms.items ++ placed_terms l.ring l.column (drop l.column l.entries) ≡ placed_terms l.ring 0 l.entries)
    × AllByRecursion IsWrittenTerm l.terms.items
