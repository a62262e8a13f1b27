use Rattle.sf_algebra.proofs.GradedMatrices.Sizes.{HasSmallSize-Fits}
use Rattle.sf_algebra.proofs.size.sizes_are_decided.Goals as goal

pub returns : goal.returns
returns c = HasSmallSize-Fits
