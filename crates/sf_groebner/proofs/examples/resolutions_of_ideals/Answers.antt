use Rattle.sf_groebner.proofs.WorkedExamples.KoszulSteps.{koszul-resolution, refuses_one_variable}
use Rattle.sf_groebner.proofs.WorkedExamples.QuadricsSteps.{quadrics-resolution, refuses_third_row}
use Rattle.sf_groebner.proofs.examples.resolutions_of_ideals.Goals as goal

pub returns : goal.returns
returns c = record {
  variables = koszul-resolution;
  one_variable = refuses_one_variable;
  quadrics = quadrics-resolution;
  third_row = refuses_third_row;
}
