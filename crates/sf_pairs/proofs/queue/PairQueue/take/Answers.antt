use Rattle.std.proofs.Common.{◌≡◌, true, false, sym, subst, rules}
use Rattle.std.specs.List.{remove}
use Rattle.sf_pairs.specs.Pushes.{NumberedPair, in_order}
use Rattle.sf_pairs.specs.Queue.{IsTaken}
use Rattle.sf_pairs.proofs.KeptQueues.{IsTakenAt, IsTakenAt-least}
use Rattle.sf_pairs.proofs.queue.PairQueue.take.Goals as goal

pub unreachable-requires : goal.unreachable-requires
unreachable-requires c =
    let at : IsTakenAt c.self.inside.pushes c.args.at c.self.inside.entries.items =
    IsTakenAt-least c.self.inside.pushes c.args.at c.self.inside.entries.items c.self.invariant (rw c.self.view_is c.requires) in
    let within = at.within in
    let clash : false ≡ true = c.in_default.ensures.variant.1 (search (rules, within)) in
    cc

pub invariant_of-self : goal.invariant_of-self
invariant_of-self c =
    let at : IsTakenAt c.self.inside.pushes c.args.at c.self.inside.entries.items =
    IsTakenAt-least c.self.inside.pushes c.args.at c.self.inside.entries.items c.self.invariant (rw c.self.view_is c.requires) in
    rw c.in-Some.ensures.items at.kept

pub returns : goal.returns
returns c =
    let at : IsTakenAt c.self.inside.pushes c.args.at c.self.inside.entries.items =
    IsTakenAt-least c.self.inside.pushes c.args.at c.self.inside.entries.items c.self.invariant (rw c.self.view_is c.requires) in
    let n = c.self.inside.pushes in
    let left = remove c.self.inside.entries.items c.args.at in
    let whole =
    subst (λ (e : NumberedPair). IsTaken c.args.at (in_order n c.self.inside.entries.items) e.pair.first e.pair.second (in_order n left))
    (sym c.taken.view_is) (at.taken c.in-Some.taken c.in-Some.ensures.value) in
    rw (c.in-Some.ensures.items, ← c.self.view_is) whole
