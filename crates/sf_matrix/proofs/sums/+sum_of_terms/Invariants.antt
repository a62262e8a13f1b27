use Rattle.std.proofs.Common.{length}
use Rattle.sf_matrix.proofs.sums.+sum_of_terms.Given as goal

abbrev pub decreases-sum_of_terms : goal.decreases-sum_of_terms
decreases-sum_of_terms l = length l.terms.now
