use Rattle.sf_groebner.proofs.Constructions.Reductions.{reduction_exists, reduction_lift, reduction_unique, reduction_zero}
use Rattle.sf_groebner.proofs.existence.each_vector_has_one_reduction.Goals as goal

pub returns : goal.returns
returns c = record {
  exists = reduction_exists;
  unique = reduction_unique;
  zero = reduction_zero;
  lifts = reduction_lift;
}
