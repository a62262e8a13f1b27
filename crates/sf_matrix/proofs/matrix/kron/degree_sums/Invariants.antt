use Rattle.std.proofs.Common.{◌≡◌, take}
use Rattle.sf_algebra.specs.MatrixOperations.{degree_sums}
use Rattle.sf_matrix.proofs.matrix.kron.degree_sums.Given as goal

abbrev pub invariant-loop-degree : goal.invariant-loop-degree
invariant-loop-degree l = l.sums ≡ degree_sums (take l.degree-index l.first) l.second
