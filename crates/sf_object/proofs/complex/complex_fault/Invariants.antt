use Rattle.sf_object.proofs.ComplexSteps.{GoesOn}
use Rattle.sf_object.proofs.complex.complex_fault.Given as goal

abbrev pub invariant-loop-k : goal.invariant-loop-k
invariant-loop-k g l = GoesOn l.c (g.B.Bases.table l.fn.bases) l.k (g.B.Bases.table l.bases)
