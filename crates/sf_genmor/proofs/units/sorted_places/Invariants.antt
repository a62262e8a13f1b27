use Rattle.std.proofs.Common.{◌≡◌, take}
use Rattle.sf_genmor.proofs.Places.{placed}
use Rattle.sf_genmor.proofs.units.sorted_places.Given as goal

abbrev pub invariant-loop-position : goal.invariant-loop-position
invariant-loop-position l = l.places.items ≡ placed 0 (take l.position l.free.degrees)
