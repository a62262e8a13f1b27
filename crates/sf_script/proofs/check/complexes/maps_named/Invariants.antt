use Rattle.std.proofs.Common.{◌≡◌, drop}
use Rattle.sf_script.specs.Refusals.{maps_named}
use Rattle.sf_script.proofs.NamedMaps.{maps_behind}
use Rattle.sf_script.proofs.check.complexes.maps_named.Given as goal

abbrev pub invariant-loop-name : goal.invariant-loop-name
invariant-loop-name l =
    maps_behind l.maps (maps_named l.env l.client (drop l.name-index l.names)) ≡ maps_named l.fn.env l.fn.client l.fn.names
