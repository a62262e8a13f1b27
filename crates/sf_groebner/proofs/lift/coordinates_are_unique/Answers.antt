use Rattle.sf_groebner.proofs.Uniqueness.ReducedCoordinates.{InSpan-relations, IsRelation-span, reduced_coordinates, unique_reduced_vector}
use Rattle.sf_groebner.proofs.lift.coordinates_are_unique.Goals as goal

pub returns : goal.returns
returns c = record {
  relations = λ g b r prime given v. (InSpan-relations g b r prime given v, IsRelation-span g b r prime given v);
  coordinates = reduced_coordinates;
  unique = unique_reduced_vector;
}
