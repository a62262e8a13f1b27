use Rattle.std.proofs.Common.{◌≡◌, ◌++◌, map, take}
use Rattle.std.specs.List.{AllByRecursion}
use Rattle.sf_text.specs.Placed.{IsWrittenTerm, placed_term}
use Rattle.sf_text.proofs.placing.row.push_entry.Given as goal

abbrev pub invariant-loop-term : goal.invariant-loop-term
invariant-loop-term l =
    (l.terms.items ≡ l.initial.terms.items ++ map (placed_term l.ring l.column) (take l.term-index l.entry))
    × (AllByRecursion IsWrittenTerm l.initial.terms.items → AllByRecursion IsWrittenTerm l.terms.items)
