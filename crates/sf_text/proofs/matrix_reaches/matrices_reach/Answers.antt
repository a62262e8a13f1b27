use Rattle.sf_text.proofs.MatrixReached.{matrices_reach}
use Rattle.sf_text.proofs.matrix_reaches.matrices_reach.Goals as goal

pub returns : goal.returns
returns c = matrices_reach
