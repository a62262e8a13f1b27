use Rattle.sf_groebner.proofs.Uniqueness.Homology.{unique_homology, unique_kernel, unique_image, unique_cokernel}
use Rattle.sf_groebner.proofs.Uniqueness.Presentations.{unique_resolution}
use Rattle.sf_groebner.proofs.presentation.presentations_are_unique.Goals as goal

pub returns : goal.returns
returns c = record {
  homology = unique_homology;
  kernel = unique_kernel;
  image = unique_image;
  cokernel = unique_cokernel;
  resolution = unique_resolution;
}
