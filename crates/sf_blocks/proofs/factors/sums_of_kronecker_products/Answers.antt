use Rattle.sf_blocks.proofs.Kroneckers.Crossings.{crossings, other_crossings}
use Rattle.sf_blocks.proofs.Kroneckers.FactorSums.{kronecker-sum_first, kronecker-sum_second, kronecker-zero_first, kronecker-zero_second, kronecker-beside}
use Rattle.sf_blocks.proofs.factors.sums_of_kronecker_products.Goals as goal

pub returns : goal.returns
returns c = record {
  first_sums = kronecker-sum_first;
  second_sums = kronecker-sum_second;
  first_zeros = kronecker-zero_first;
  second_zeros = kronecker-zero_second;
  beside = kronecker-beside;
  crossings = crossings;
  other_crossings = other_crossings;
}
