use Rattle.std.proofs.Common.{take}
use Rattle.std.specs.List.{AllByRecursion}
use Rattle.sf_algebra.specs.Monomials.{one}
use Rattle.sf_algebra.specs.Vectors.{Vector}
use Rattle.sf_matrix.specs.Bounds.{HasRoom}
use Rattle.sf_functor.proofs.room.monomials_have_room.Given as goal

abbrev pub invariant-loop-i : goal.invariant-loop-i
invariant-loop-i l = AllByRecursion (λ (v : Vector). HasRoom one v.terms) (take l.i l.m.rows)
