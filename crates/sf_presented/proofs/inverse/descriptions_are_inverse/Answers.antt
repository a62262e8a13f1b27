use Rattle.sf_presented.proofs.Descriptions.{inverse-descriptions}
use Rattle.sf_presented.proofs.inverse.descriptions_are_inverse.Goals as goal

pub returns : goal.returns
returns c = record { inverse = inverse-descriptions }
