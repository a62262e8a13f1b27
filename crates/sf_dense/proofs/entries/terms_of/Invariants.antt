use Rattle.std.proofs.Common.{◌≡◌, take}
use Rattle.sf_dense.specs.Entries.{placed}
use Rattle.sf_dense.proofs.entries.terms_of.Given as goal

abbrev pub invariant-loop-entry : goal.invariant-loop-entry
invariant-loop-entry l = l.terms.items ≡ placed l.columns (take l.entry-index l.entries)
