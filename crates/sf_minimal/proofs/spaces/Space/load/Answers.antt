use Rattle.std.specs.Prelude.{IfSome}
use Rattle.sf_algebra.specs.Monomials.{one}
use Rattle.std.proofs.Common.{◌≡◌, ◌<◌, length, map, sym, ap, subst, ◌∙◌, arith}
use Rattle.std.proofs.lemmas.List.{length-replicate}
use Rattle.sf_dense.specs.Entries.{added, dense, placed}
use Rattle.sf_dense.specs.MonicEntries.{AreWithin}
use Rattle.sf_dense.specs.Walks.{times_monomial}
use Rattle.sf_minimal.proofs.SpaceSteps.{GoesOn-cells, dense-loaded, if_true, length-maybe_added}
use Rattle.sf_minimal.proofs.spaces.Space.load.Goals as goal

pub returns-in-Some-clause-goes_on : goal.returns-in-Some-clause-goes_on
returns-in-Some-clause-goes_on c =
    GoesOn-cells c.args.m.now c.args.self.now c.requires.space c.add.new.self
    (length-maybe_added 1 c.deref-in-Some.result.now c.clear.new.self c.add.new.self c.add.result c.add.ensures.added
    ∙ ap length c.clear.ensures.zero ∙ length-replicate (length c.args.self.now.cells) 0)

pub returns-in-Some-clause-sum : goal.returns-in-Some-clause-sum
returns-in-Some-clause-sum c =
    let s = c.args.self.now in
    let p = c.args.m.now.ring.modulus in
    let ks = s.places.items in
    let ts = c.args.v.now.terms in
    let es = c.in-Some.entries in
    let facts = c.matrix_facts.ensures in
    let positive : 0 < p = let above = facts.above_one in omega (arith, above) in
    let read = c.in_ok-multiple_entries.ensures in
    let same : placed ks es.items ≡ map (times_monomial one) ts =
    (λ i. placed (sym c.deref.ensures.value i) es.items)
    ∙ subst (λ found. IfSome found (λ us. placed c.deref.result.now us.items ≡ map (times_monomial c.one.result) c.terms.result.now)) c.in-Some.is read.entries
    ∙ (λ i. map (times_monomial (c.one.ensures.one i)) (c.terms.ensures.terms i)) in
    let within : AreWithin (length ks) es.items =
    subst (λ l. AreWithin (length l) es.items) c.deref.ensures.value
    (subst (λ found. IfSome found (λ us. AreWithin (length c.deref.result.now) us.items)) c.in-Some.is read.within) in
    λ e.
    ap (dense p ks)
    (if_true _ _ c.add.result e c.add.ensures.added
    ∙ (λ i. added 1 (c.clear.ensures.zero i) (c.deref-in-Some.ensures.value i)))
    ∙ dense-loaded p positive ks (length s.cells) es.items ts (sym c.requires.space.size) within same c.requires.canonical
