-- How a program adds residues and takes their negatives.
use Rattle.sf_algebra.proofs.Arithmetic.Residues.{sum_mod-small, sum_mod-large, negative_mod-zero, negative_mod-positive}

-- by whether the sum is below p
pub ruleset additions = (sum_mod-small, sum_mod-large)

-- by whether the residue is zero
pub ruleset negatives = (negative_mod-zero, negative_mod-positive)
