use Rattle.std.proofs.Common.{◌≤◌, take}
use Rattle.sf_algebra.specs.Monomials.{VARIABLES}
use Rattle.sf_variables.specs.Variables.{IsRowInVariables}
use Rattle.sf_buchberger.proofs.counted.checks.variables_with.Given as goal

abbrev pub invariant-loop-term : goal.invariant-loop-term
invariant-loop-term l = record {
  few : l.most ≤ VARIABLES;
  more : l.variables ≤ l.most;
  variables : IsRowInVariables l.most (take l.term-index l.v.terms);
}
