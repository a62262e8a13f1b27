use Rattle.sf_presented.proofs.RowMaps.{sends-rows, sends-span}
use Rattle.sf_presented.proofs.map.maps_are_decided_by_rows.Goals as goal

pub returns : goal.returns
returns c = record {
  rows = λ source target map positive above first second matrix other. (
    sends-rows source target map positive first second above matrix,
    sends-span source target map positive first second other,
  );
}
