use Rattle.sf_variables.proofs.Presenting.Coefficients.{coefficients_in_variables}
use Rattle.sf_variables.proofs.Presenting.Lifts.{coordinates_in_variables, lift_in_variables, reduced_vector_in_variables, rest_in_variables}
use Rattle.sf_variables.proofs.lift.lifts_keep_to_variables.Goals as goal

pub returns : goal.returns
returns c = record {
  coefficients = coefficients_in_variables;
  lift = lift_in_variables;
  coordinates = coordinates_in_variables;
  rest = rest_in_variables;
  reduced = λ n m positive h v w inside vector degree. reduced_vector_in_variables n m positive h v w inside degree vector.canonical;
}
