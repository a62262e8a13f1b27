use Rattle.sf_presented.proofs.Inverses.{reduced_inverse, unique_reduced_inverse}
use Rattle.sf_presented.proofs.inverse.inverses_are_unique.Goals as goal

pub returns : goal.returns
returns c = record {
  exists = λ first second to from prime matrix other. reduced_inverse first second to prime matrix other from;
  unique = λ first second to a b prime matrix. unique_reduced_inverse first second to prime matrix a b;
}
