use Rattle.sf_algebra.proofs.Arithmetic.Inverses.{inverse_unique}
use Rattle.sf_field.proofs.laws.inverses_are_unique.Goals as goal

pub returns : goal.returns
returns c = λ p listed. inverse_unique p
