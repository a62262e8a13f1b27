use Rattle.sf_object.proofs.MapFaults.{no_fault_map}
use Rattle.sf_object.proofs.laws.maps_have_no_fault.Goals as goal

pub returns : goal.returns
returns c = no_fault_map
