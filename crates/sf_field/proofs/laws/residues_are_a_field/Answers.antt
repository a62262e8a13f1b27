use Rattle.sf_algebra.proofs.Arithmetic.Inverses.{field_of_residues}
use Rattle.sf_field.proofs.Moduli.{modulus_prime}
use Rattle.sf_field.proofs.laws.residues_are_a_field.Goals as goal

pub returns : goal.returns
returns c = λ p listed. field_of_residues p (modulus_prime p listed)
