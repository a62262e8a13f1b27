use Rattle.std.proofs.Common.{◌≡◌, [], take}
use Rattle.sf_blocks.specs.MatrixSums.{zero_matrix}
use Rattle.sf_derived.proofs.shelved.map_to_nothing.Given as goal

abbrev pub invariant-loop-degree : goal.invariant-loop-degree
invariant-loop-degree l = l.zero ≡ zero_matrix l.m.ring (take l.degree-index l.m.target) []
