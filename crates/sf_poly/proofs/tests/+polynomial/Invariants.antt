use Rattle.std.proofs.Common.{length}
use Rattle.sf_poly.proofs.tests.+polynomial.Given as goal

abbrev pub decreases-polynomial : goal.decreases-polynomial
decreases-polynomial l = length l.rows.now
