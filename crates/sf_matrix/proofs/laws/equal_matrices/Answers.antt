use Rattle.sf_algebra.proofs.GradedMatrices.Equality.{Decides-same_matrix}
use Rattle.sf_matrix.proofs.laws.equal_matrices.Goals as goal

pub returns : goal.returns
returns c = Decides-same_matrix
