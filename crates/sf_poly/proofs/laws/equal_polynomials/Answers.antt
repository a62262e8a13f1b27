use Rattle.sf_poly.specs.Equality.{Decides-same_polynomial}
use Rattle.sf_poly.proofs.laws.equal_polynomials.Goals as goal

pub returns : goal.returns
returns c = Decides-same_polynomial
