use Rattle.std.proofs.Common.{◌≡◌, take}
use Rattle.sf_matrix.proofs.list.List.from_slice.Given as goal

abbrev pub invariant-loop-item : goal.invariant-loop-item
invariant-loop-item t l = l.copies.items ≡ take l.item-index l.items
