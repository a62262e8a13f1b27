use Rattle.std.proofs.Common.{◌≡◌, drop}
use Rattle.sf_dense.specs.MonicEntries.{residue_entries}
use Rattle.sf_dense.proofs.cells.first_entry.Given as goal

-- the residues so far are 0
abbrev pub invariant-loop-cell : goal.invariant-loop-cell
invariant-loop-cell l =
    residue_entries l.modulus 0 l.sums ≡ residue_entries l.modulus l.cell (drop l.cell l.sums)
