use Rattle.std.proofs.Common.{subst}
use Rattle.sf_poly.specs.Polynomials.{IsPolynomial}
use Rattle.sf_poly.proofs.poly.Poly.len.Goals as goal

pub returns-clause-polynomial : goal.returns-clause-polynomial
returns-clause-polynomial c = subst IsPolynomial c.self.view_is c.self.invariant
