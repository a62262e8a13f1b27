use Rattle.std.proofs.Common.{◌≡◌, ◌++◌, map, drop}
use Rattle.sf_object.specs.declared.map.Map.{Map}
use Rattle.sf_session.proofs.outcomes.matrices.Given as goal

abbrev pub invariant-loop-map : goal.invariant-loop-map
invariant-loop-map l =
    l.found ++ map (λ (f : Map). f.matrix) (drop l.map-index l.maps) ≡ map (λ (f : Map). f.matrix) l.fn.maps
