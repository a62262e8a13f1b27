use Rattle.std.proofs.Common.{take}
use Rattle.sf_buchberger.specs.GraphBases.{AreParts}
use Rattle.sf_buchberger.proofs.parts.parts.Given as goal

abbrev pub invariant-loop-i : goal.invariant-loop-i
invariant-loop-i l = AreParts l.m (take l.i l.rows.rows) l.graph.basis l.graph.coefficients l.graph.syzygies
