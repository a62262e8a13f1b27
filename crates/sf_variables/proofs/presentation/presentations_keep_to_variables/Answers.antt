use Rattle.sf_variables.proofs.Presenting.Presentations.{cokernel_in_variables, homology_in_variables, image_in_variables, kernel_in_variables, resolution_in_variables}
use Rattle.sf_variables.proofs.presentation.presentations_keep_to_variables.Goals as goal

pub returns : goal.returns
returns c = record {
  homology = homology_in_variables;
  kernel = kernel_in_variables;
  image = image_in_variables;
  cokernel = cokernel_in_variables;
  resolution = resolution_in_variables;
}
