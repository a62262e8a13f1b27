use Rattle.sf_variables.proofs.Keeping.Matrices.{IsMatrixInVariables-identity, IsMatrixInVariables-matrix_product, IsMatrixInVariables-negated, IsMatrixInVariables-transposed, IsMatrixInVariables-stacked, IsMatrixInVariables-part, IsMatrixInVariables-kronecker}
use Rattle.sf_variables.proofs.matrices.matrices_keep_to_variables.Goals as goal

pub returns : goal.returns
returns c = record {
  identity = IsMatrixInVariables-identity;
  product = IsMatrixInVariables-matrix_product;
  negated = IsMatrixInVariables-negated;
  transposed = IsMatrixInVariables-transposed;
  stacked = IsMatrixInVariables-stacked;
  part = IsMatrixInVariables-part;
  kronecker = IsMatrixInVariables-kronecker;
}
