use Rattle.std.proofs.Common.{◌≡◌, suc, [], ◌∷◌, ◌++◌, ◌∙◌, refl, rules, arith, to_z, of_z, w64}
use Rattle.sf_pairs.specs.Pushes.{NumberedPair, in_order}
use Rattle.sf_pairs.specs.Queue.{pair_of}
use Rattle.sf_pairs.proofs.KeptQueues.{IsKept-push, IsPartitionedBy-degree, in_order-push}
use Rattle.sf_pairs.proofs.queue.PairQueue.push.Goals as goal

pub place_behind-place-requires : goal.place_behind-place-requires
place_behind-place-requires c =
    IsPartitionedBy-degree (to_z w64 (of_z w64 c.args.degree)) c.self.inside.entries.items c.self.invariant.sorted

pub invariant_of-self-2 : goal.invariant_of-self-2
invariant_of-self-2 c =
    let n = c.self.inside.pushes in
    let es = c.self.inside.entries.items in
    let degree = to_z w64 (of_z w64 c.args.degree) in
    let e : NumberedPair = record { number = n; pair = pair_of degree c.args.pair.0 c.args.pair.1 } in
    let added = rw c.in_ok-pushes.ensures.ok_part at c.checked_add.ensures in
    let next : c.in_ok-pushes.pushes ≡ suc n = search (rules, arith, added) in
    rw (c.in_ok-insert.ensures.items, next)
    (IsKept-push n es c.self.invariant e refl c.place_behind-place.result c.place_behind-place.ensures.point)

pub returns-clause-ok : goal.returns-clause-ok
returns-clause-ok c =
    let n = c.self.inside.pushes in
    let es = c.self.inside.entries.items in
    let degree : to_z w64 (of_z w64 c.args.degree) ≡ c.args.degree = search rules in
    let e : NumberedPair = record { number = n; pair = pair_of (to_z w64 (of_z w64 c.args.degree)) c.args.pair.0 c.args.pair.1 } in
    let added = rw c.in_ok-pushes.ensures.ok_part at c.checked_add.ensures in
    let next : c.in_ok-pushes.pushes ≡ suc n = search (rules, arith, added) in
    (λ i. in_order (next i) (c.in_ok-insert.ensures.items i))
    ∙ in_order-push n es c.self.invariant e refl c.place_behind-place.result c.place_behind-place.ensures.point
    ∙ (λ i. c.self.view_is i ++ pair_of (degree i) c.args.pair.0 c.args.pair.1 ∷ [])
