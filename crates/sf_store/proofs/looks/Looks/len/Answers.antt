use Rattle.std.proofs.Common.{subst}
use Rattle.sf_matrix.specs.Tables.{IsTable}
use Rattle.sf_store.proofs.Entries.{IsTable-looks}
use Rattle.sf_store.proofs.looks.Looks.len.Goals as goal

pub returns-clause-table : goal.returns-clause-table
returns-clause-table c = subst IsTable c.self.view_is (IsTable-looks _ _ _ c.self.invariant)
