use Rattle.sf_presented.proofs.PresentedCoordinates.{coordinates-kernel, coordinates-image, coordinates-cokernel, coordinates-homology}
use Rattle.sf_presented.proofs.coordinate.presentations_have_coordinates.Goals as goal

pub returns : goal.returns
returns c = record {
  kernel = coordinates-kernel;
  image = coordinates-image;
  cokernel = coordinates-cokernel;
  homology = coordinates-homology;
}
