use Rattle.std.proofs.Common.{◌≡◌, false, map, take}
use Rattle.sf_matrix.specs.Tables.{is_among, matrices_of}
use Rattle.sf_store.specs.Looks.{entry_of}
use Rattle.sf_store.proofs.looks.number_of.Given as goal

abbrev pub invariant-loop-k : goal.invariant-loop-k
invariant-loop-k l = is_among l.m (matrices_of (map entry_of (take l.k l.items))) ≡ false
