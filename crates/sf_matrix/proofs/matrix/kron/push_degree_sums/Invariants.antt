use Rattle.std.proofs.Common.{◌≡◌, ◌++◌, ◌+ℤ◌, map, take}
use Rattle.sf_matrix.proofs.matrix.kron.push_degree_sums.Given as goal

abbrev pub invariant-loop-other : goal.invariant-loop-other
invariant-loop-other l = l.sums ≡ l.fn.sums ++ map (λ e. l.degree +ℤ e) (take l.other-index l.others)
