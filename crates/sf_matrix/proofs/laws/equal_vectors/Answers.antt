use Rattle.sf_algebra.proofs.GradedMatrices.Equality.{Decides-same_vector}
use Rattle.sf_matrix.proofs.laws.equal_vectors.Goals as goal

pub returns : goal.returns
returns c = Decides-same_vector
