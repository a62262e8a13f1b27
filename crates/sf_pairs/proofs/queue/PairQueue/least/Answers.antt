use Rattle.std.proofs.Common.{◌≡◌, ◌<◌, true, false, length, sym, ◌∙◌, refl, rules, to_z, of_z, w64}
use Rattle.sf_pairs.proofs.KeptQueues.{in_order-none, least-front}
use Rattle.sf_pairs.proofs.queue.PairQueue.least.Goals as goal

pub returns-in-None-clause-none : goal.returns-in-None-clause-none
returns-in-None-clause-none c =
    let es = c.self.inside.entries.items in
    let none : 0 < length es → ⊥ = λ some. (let clash : false ≡ true = c.in-None.ensures.variant.1 (search (rules, some)) in cc) in
    (λ _. sym c.self.view_is ∙ in_order-none c.self.inside.pushes es none, λ _. refl)

pub returns-in-Some-clause-none : goal.returns-in-Some-clause-none
returns-in-Some-clause-none c =
    let es = c.self.inside.entries.items in
    let some : 0 < length es = search rules in
    let first = least-front c.self.inside.pushes es c.in-Some.entry.now c.self.invariant some c.in-Some.ensures.lookup in
    (λ clash. cc, λ empty. absurd (first.2 (c.self.view_is ∙ empty)))

pub returns-in-Some-clause-least : goal.returns-in-Some-clause-least
returns-in-Some-clause-least c =
    let es = c.self.inside.entries.items in
    let some : 0 < length es = search rules in
    let degree : to_z w64 (of_z w64 c.entry.inside.degree) ≡ c.in-Some.entry.now.pair.degree = search rules in
    let first = least-front c.self.inside.pushes es c.in-Some.entry.now c.self.invariant some c.in-Some.ensures.lookup in
    rw (degree, ← c.self.view_is) first.0
