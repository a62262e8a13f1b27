use Rattle.std.proofs.Common.{◌≡◌, ◌++◌, ◌∷◌, [], List, sym, ◌∙◌, ap, length, slice_index_or, slice_get, Some, pos, to_z, of_z, w32, ◌≤◌, subst, ℤ, rules}
use Rattle.std.proofs.lemmas.List.{take_all}
use Rattle.std.proofs.lemmas.Option.{slice_get-get_or}
use Rattle.sf_genmor.proofs.Places.{placed, placed-take, sorted_is}
use Rattle.sf_genmor.proofs.units.sorted_places.Goals as goal

pub loop-position-preserved : goal.loop-position-preserved
loop-position-preserved c =
    let items = c.as_slice-degree-items.result.now in
    let k = c.loop-position.position in
    let d = slice_index_or items k (pos 0) in
    let degree : to_z w32 (of_z w32 d) ≡ d = search rules in
    let here : slice_get c.args.free.now.degrees k ≡ Some d =
    ap (λ ds. slice_get ds k) (sym c.as_slice-degree-items.ensures.items) ∙ slice_get-get_or items k (pos 0) c.loop-position-test.true in
    c.in_ok-push.ensures.items
    ∙ (λ i. c.loop-position.invariant i ++ (degree i, k) ∷ [])
    ∙ sym (placed-take c.args.free.now.degrees k d here)

pub returns : goal.returns
returns c =
    let ds = c.args.free.now.degrees in
    let past : length ds ≤ c.loop-position.position =
    subst (λ (items : List ℤ). length items ≤ c.loop-position.position) c.as_slice-degree-items.ensures.items c.loop-position-test.false in
    record {
      places =
          sorted_is ds c.loop-position.places.items _
          (c.loop-position.invariant ∙ ap (placed 0) (take_all c.loop-position.position ds past))
          c.in_ok-sort.ensures.permutation c.in_ok-sort.ensures.sorted;
    }
