use Rattle.std.proofs.Common.{take}
use Rattle.std.specs.List.{AllByRecursion}
use Rattle.sf_groebner.specs.Spans.{InSpan}
use Rattle.sf_object.proofs.faults.first_outside.Given as goal

abbrev pub invariant-loop-i : goal.invariant-loop-i
invariant-loop-i g l = AllByRecursion (InSpan l.m) (take l.i l.vectors.rows)
