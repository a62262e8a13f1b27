use Rattle.std.proofs.Common.{◌≤◌}
use Rattle.sf_algebra.specs.Monomials.{VARIABLES}
use Rattle.sf_variables.specs.Variables.{IsMatrixInVariables}
use Rattle.sf_buchberger.specs.CountedRows.{IsCounting}
use Rattle.sf_buchberger.proofs.counted.counted_rows.Given as goal

abbrev pub invariant-loop : goal.invariant-loop
invariant-loop g l = record {
  counting : IsCounting l.limit l.m l.counting;
  few : l.counting.variables ≤ VARIABLES;
  variables : IsMatrixInVariables l.counting.variables l.m;
}
