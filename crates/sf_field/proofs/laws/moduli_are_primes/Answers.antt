use Rattle.sf_field.proofs.Moduli.{modulus_prime}
use Rattle.sf_field.proofs.laws.moduli_are_primes.Goals as goal

pub returns : goal.returns
returns c = modulus_prime
