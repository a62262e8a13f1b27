use Rattle.sf_algebra.proofs.Arithmetic.Inverses.{Reaches}
use Rattle.sf_field.proofs.modulus.Modulus.inv.Given as goal

abbrev pub invariant-loop-rest : goal.invariant-loop-rest
invariant-loop-rest l = Reaches l.p l.fn.a l.factor l.rest

abbrev pub decreases-loop-rest : goal.decreases-loop-rest
decreases-loop-rest l = l.rest
