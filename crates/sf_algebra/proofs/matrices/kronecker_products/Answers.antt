use Rattle.sf_algebra.proofs.Tensors.Kronecker.{IsMatrix-kronecker, row_degrees-kronecker}
use Rattle.sf_algebra.proofs.Tensors.KroneckerEntries.{entry-kronecker}
use Rattle.sf_algebra.proofs.Tensors.KroneckerIdentities.{entry-kronecker_identity, row_at-kronecker_identity_first, kronecker-identity}
use Rattle.sf_algebra.proofs.Tensors.KroneckerProducts.{kronecker-matrix_product}
use Rattle.sf_algebra.proofs.Tensors.KroneckerSums.{kronecker-negated, kronecker-negated_first, kronecker-one, kronecker-stacked}
use Rattle.sf_algebra.proofs.Tensors.KroneckerTransposes.{transposed-kronecker}
use Rattle.sf_algebra.proofs.matrices.kronecker_products.Goals as goal

pub returns : goal.returns
returns c = record {
  matrices = λ a b positive rings h k. (IsMatrix-kronecker a b positive rings h k, row_degrees-kronecker a b);
  entries = entry-kronecker;
  first_identity = row_at-kronecker_identity_first;
  second_identity = entry-kronecker_identity;
  ring = kronecker-one;
  identities = kronecker-identity;
  products = kronecker-matrix_product;
  transposes = transposed-kronecker;
  stacks = kronecker-stacked;
  first_negative = kronecker-negated_first;
  second_negative = kronecker-negated;
}
