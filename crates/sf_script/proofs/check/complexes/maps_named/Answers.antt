use Rattle.std.proofs.Common.{rules, ◌≡◌, ◌∙◌, ◌+◌, ◌∷◌, ◌++◌, [], Ok, ap, sym, refl, drop}
use Rattle.std.proofs.lemmas.Option.{slice_get_read}
use Rattle.sf_algebra.proofs.Basics.Drops.{drop-slice_get}
use Rattle.sf_script.specs.Refusals.{map_named, maps_named}
use Rattle.sf_script.proofs.NamedMaps.{maps_behind, maps_behind-next}
use Rattle.sf_script.proofs.check.complexes.maps_named.Goals as goal

pub loop-name-preserved : goal.loop-name-preserved
loop-name-preserved c =
    let env = c.args.env.now in
    let client = c.args.client.now in
    let names = c.args.names.now in
    let index = c.loop-name.name-index in
    let f = c.in_ok-map_named.field-0 in
    let found : map_named env client c.name-item.result ≡ Ok f = search rules in
    let next : drop index names ≡ c.name-item.result ∷ drop (index + 1) names =
    drop-slice_get names index c.name-item.result
    (slice_get_read names _ index c.name-item.result refl c.loop-name-test.true c.name-item.is) in
    let pushed : c.push.new.self ≡ c.loop-name.maps ++ f ∷ [] = search rules in
    ap (λ fs. maps_behind fs (maps_named env client (drop (index + 1) names))) pushed
    ∙ maps_behind-next env client c.name-item.result (drop (index + 1) names) c.loop-name.maps f found
    ∙ ap (λ ns. maps_behind c.loop-name.maps (maps_named env client ns)) (sym next)
    ∙ c.loop-name.invariant
