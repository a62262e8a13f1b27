use Rattle.sf_presented.proofs.Generating.{presented-kernel, presented-image, presented-cokernel, presented-homology, sums-kernel, sums-image, sums-homology}
use Rattle.sf_presented.proofs.presented.presentations_present.Goals as goal

pub returns : goal.returns
returns c = record {
  kernel = presented-kernel;
  image = presented-image;
  cokernel = presented-cokernel;
  homology = presented-homology;
  kernel_sums = sums-kernel;
  image_sums = sums-image;
  homology_sums = sums-homology;
}
