use Rattle.std.proofs.Common.{◌≤◌, take}
use Rattle.sf_algebra.specs.Monomials.{VARIABLES}
use Rattle.sf_variables.specs.Variables.{AreInVariables}
use Rattle.sf_buchberger.proofs.counted.checks.variables_of.Given as goal

abbrev pub invariant-loop-i : goal.invariant-loop-i
invariant-loop-i l = record {
  few : l.variables ≤ VARIABLES;
  variables : AreInVariables l.variables (take l.i l.m.rows);
}
