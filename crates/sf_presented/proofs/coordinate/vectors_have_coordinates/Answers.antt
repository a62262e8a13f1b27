use Rattle.sf_presented.proofs.Coordinates.{coordinates_exist, coordinates-inside, unique_coordinates, coordinates-lift}
use Rattle.sf_presented.proofs.coordinate.vectors_have_coordinates.Goals as goal

pub returns : goal.returns
returns c = record {
  exist = λ generators base relations prime given v canonical. (
    λ h. coordinates-inside generators base relations prime given v h.0 canonical h.1,
    coordinates_exist generators base relations prime given v,
  );
  unique = unique_coordinates;
  lifts = coordinates-lift;
}
