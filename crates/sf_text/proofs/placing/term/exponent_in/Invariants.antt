use Rattle.std.proofs.Common.{◌≡◌, ◌+◌, drop}
use Rattle.sf_text.specs.Placed.{exponent_in}
use Rattle.sf_text.proofs.placing.term.exponent_in.Given as goal

abbrev pub invariant-loop-other : goal.invariant-loop-other
invariant-loop-other l = l.sum + exponent_in (drop l.other-index l.factors) l.name ≡ exponent_in l.factors l.name
