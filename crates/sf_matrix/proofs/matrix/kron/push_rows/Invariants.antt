use Rattle.std.proofs.Common.{◌≡◌, ◌++◌, map, take}
use Rattle.sf_algebra.specs.Rings.{plain}
use Rattle.sf_matrix.specs.Places.{kronecker_vector}
use Rattle.sf_matrix.proofs.matrix.kron.push_rows.Given as goal

abbrev pub invariant-loop-right : goal.invariant-loop-right
invariant-loop-right l =
    l.rows.items ≡ l.fn.rows.items ++ map (kronecker_vector (plain l.modulus) l.columns l.left)
    (take l.right-index l.others)
