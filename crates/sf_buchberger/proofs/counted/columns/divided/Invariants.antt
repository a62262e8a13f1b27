use Rattle.std.proofs.Common.{◌≡◌, map, take}
use Rattle.std.specs.List.{list_any}
use Rattle.sf_groebner.specs.Leads.{place_divides}
use Rattle.sf_buchberger.proofs.counted.columns.divided.Given as goal

abbrev pub invariant-loop-place : goal.invariant-loop-place
invariant-loop-place l =
    l.divided.items ≡ map (λ k. list_any (λ j. place_divides j k) l.leads) (take l.place-index l.columns)
