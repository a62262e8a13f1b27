use Rattle.std.proofs.Common.{◌≡◌, ◌++◌, drop, map}
use Rattle.sf_dense.specs.MonicEntries.{residue_entries, scaled_entry}
use Rattle.sf_dense.proofs.cells.monic_from.Given as goal

-- with those of the sums that are left, the entries are all of them
abbrev pub invariant-loop-cell : goal.invariant-loop-cell
invariant-loop-cell l =
    l.entries.items ++ map (scaled_entry l.modulus l.inverse) (residue_entries l.modulus l.cell (drop l.cell l.sums))
    ≡ map (scaled_entry l.modulus l.inverse) (residue_entries l.modulus 0 l.sums)
