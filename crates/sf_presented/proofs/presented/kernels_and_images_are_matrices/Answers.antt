use Rattle.sf_presented.proofs.PresentationMatrices.{IsMatrix-kernel, IsMatrix-image, IsMatrix-cokernel}
use Rattle.sf_presented.proofs.presented.kernels_and_images_are_matrices.Goals as goal

pub returns : goal.returns
returns c = record { kernel = IsMatrix-kernel; image = IsMatrix-image; cokernel = IsMatrix-cokernel }
