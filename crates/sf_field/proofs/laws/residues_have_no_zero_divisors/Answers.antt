use Rattle.sf_algebra.proofs.Arithmetic.Inverses.{no_zero_divisors}
use Rattle.sf_field.proofs.Moduli.{modulus_prime}
use Rattle.sf_field.proofs.laws.residues_have_no_zero_divisors.Goals as goal

pub returns : goal.returns
returns c = λ p listed. no_zero_divisors p (modulus_prime p listed)
