use Rattle.std.proofs.Common.{◌≤◌}
use Rattle.sf_algebra.specs.Monomials.{VARIABLES}
use Rattle.sf_minimal.proofs.sizes.variables_of.Given as goal

abbrev pub invariant-loop-i : goal.invariant-loop-i
invariant-loop-i l = l.variables ≤ VARIABLES
