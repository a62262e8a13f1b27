use Rattle.std.proofs.Common.{◌≡◌, ◌<◌, true, false, length, sym, ◌∙◌, ap, rules, to_z, of_z, w64}
use Rattle.sf_pairs.specs.Queue.{count_least}
use Rattle.sf_pairs.proofs.KeptQueues.{IsPartitionedBy-degree, IsPlaceBehind, count_least-place, in_order-none, least-front}
use Rattle.sf_pairs.proofs.queue.PairQueue.count_least.Goals as goal

pub place_behind-requires : goal.place_behind-requires
place_behind-requires c =
    IsPartitionedBy-degree (to_z w64 (of_z w64 c.entry.inside.degree)) c.self.inside.entries.items c.self.invariant.sorted

pub returns-in-Some : goal.returns-in-Some
returns-in-Some c =
    let n = c.self.inside.pushes in
    let es = c.self.inside.entries.items in
    let e = c.in-Some.entry.now in
    let some : 0 < length es = search rules in
    let degree : to_z w64 (of_z w64 c.entry.inside.degree) ≡ e.pair.degree = search rules in
    let place : IsPlaceBehind e.pair.degree es c.place_behind.result = rw degree at c.place_behind.ensures.point in
    let first = least-front n es e c.self.invariant some c.in-Some.ensures.lookup in
    record {
      count =
          count_least-place n es e.pair.degree c.place_behind.result c.self.invariant first.0 first.1 c.place_behind.ensures.within place
          ∙ ap count_least c.self.view_is;
    }

pub returns-in-None : goal.returns-in-None
returns-in-None c =
    let es = c.self.inside.entries.items in
    let none : 0 < length es → ⊥ = λ some. (let clash : false ≡ true = c.in-None.ensures.variant.1 (search (rules, some)) in cc) in
    record { count = sym (ap count_least (sym c.self.view_is ∙ in_order-none c.self.inside.pushes es none)) }
