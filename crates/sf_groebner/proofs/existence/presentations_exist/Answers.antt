use Rattle.sf_groebner.proofs.Constructions.PresentationExistence.{homology_exists, kernel_exists, image_exists, cokernel_exists}
use Rattle.sf_groebner.proofs.Constructions.ResolutionExistence.{resolution_exists}
use Rattle.sf_groebner.proofs.existence.presentations_exist.Goals as goal

pub returns : goal.returns
returns c = record {
  homology = homology_exists;
  kernel = kernel_exists;
  image = image_exists;
  cokernel = cokernel_exists;
  resolution = resolution_exists;
}
