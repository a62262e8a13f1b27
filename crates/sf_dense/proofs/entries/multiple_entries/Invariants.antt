use Rattle.std.proofs.Common.{◌≡◌, length, map, take, drop}
use Rattle.std.specs.List.{AllByRecursion}
use Rattle.sf_algebra.specs.Rings.{ones}
use Rattle.sf_algebra.specs.Terms.{IsDescending}
use Rattle.sf_algebra.specs.Vectors.{place_cmp}
use Rattle.sf_variables.specs.Columns.{AreFalling}
use Rattle.sf_dense.specs.Entries.{placed}
use Rattle.sf_dense.specs.MonicEntries.{AreWithin}
use Rattle.sf_dense.specs.Walks.{times_monomial, IsFrom}
use Rattle.sf_dense.proofs.entries.multiple_entries.Given as goal

-- the entries so far are those of the terms so far, and the places of the others are not passed
abbrev pub invariant-loop-term : goal.invariant-loop-term
invariant-loop-term l = record {
  entries : placed l.columns l.entries.items ≡ map (times_monomial l.factor) (take l.term-index l.terms);
  within : AreWithin (length l.columns) l.entries.items;
  ahead : AreFalling ones l.columns → IsDescending (place_cmp ones) l.terms
      → AllByRecursion (IsFrom l.columns l.factor l.from) (drop l.term-index l.terms);
}
