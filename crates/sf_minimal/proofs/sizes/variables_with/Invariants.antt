use Rattle.std.proofs.Common.{◌≤◌}
use Rattle.sf_algebra.specs.Monomials.{VARIABLES}
use Rattle.sf_minimal.proofs.sizes.variables_with.Given as goal

abbrev pub invariant-loop-term : goal.invariant-loop-term
invariant-loop-term l = l.most ≤ VARIABLES
