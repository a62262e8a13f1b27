use Rattle.sf_algebra.proofs.Vectors.HomogeneousVectors.{IsVector-add, IsVector-negative, IsVector-multiple, IsVector-row_combination, IsVector-degree_part, row_combination-IsVector}
use Rattle.sf_algebra.proofs.vector.vectors_are_graded.Goals as goal

pub returns : goal.returns
returns c = record {
  sums = λ ring positive degrees. IsVector-add ring degrees positive;
  negatives = IsVector-negative;
  multiples = λ ring positive degrees. IsVector-multiple ring degrees positive;
  combinations = IsVector-row_combination;
  coefficients = row_combination-IsVector;
  parts = IsVector-degree_part;
}
