use Rattle.std.proofs.Common.{◌≡◌, false, take}
use Rattle.sf_matrix.specs.Tables.{is_among}
use Rattle.sf_object.specs.Shelves.{modules_of}
use Rattle.sf_resolve.proofs.shelf.number_of.Given as goal

abbrev pub invariant-loop-k : goal.invariant-loop-k
invariant-loop-k l = is_among l.relations (modules_of (take l.k l.entries)) ≡ false
