use Rattle.sf_algebra.proofs.Monomials.Divisors.{Divides-iff, Divides-refl, Divides-trans, Divides-antisymm, Divides-monomial_cmp}
use Rattle.sf_algebra.proofs.divisibility.monomial_divisors.Goals as goal

pub returns : goal.returns
returns c = record {
  multiples = Divides-iff;
  reflexive = Divides-refl;
  transitive = Divides-trans;
  antisymmetric = Divides-antisymm;
  order = Divides-monomial_cmp;
}
