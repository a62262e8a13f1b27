use Rattle.sf_algebra.proofs.Monomials.Divisors.{lcm-multiple, lcm-least, lcm-degree, monomial_degree-lcm}
use Rattle.sf_algebra.proofs.divisibility.monomial_multiples.Goals as goal

pub returns : goal.returns
returns c = record { common = lcm-multiple; least = lcm-least; degree = lcm-degree; bounded = monomial_degree-lcm }
