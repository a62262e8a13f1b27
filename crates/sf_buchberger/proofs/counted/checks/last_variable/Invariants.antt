use Rattle.std.proofs.Common.{◌-◌}
use Rattle.sf_algebra.specs.Monomials.{VARIABLES}
use Rattle.sf_variables.specs.Variables.{IsInVariables}
use Rattle.sf_buchberger.proofs.counted.checks.last_variable.Given as goal

abbrev pub invariant-loop-k : goal.invariant-loop-k
invariant-loop-k l = IsInVariables (VARIABLES - l.k) l.monomial
