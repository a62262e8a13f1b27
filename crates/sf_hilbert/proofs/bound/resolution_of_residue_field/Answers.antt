use Rattle.sf_hilbert.proofs.ThreeVariables.Steps.{three_steps}
use Rattle.sf_hilbert.proofs.bound.resolution_of_residue_field.Goals as goal

pub returns : goal.returns
returns c = record { steps = three_steps }
