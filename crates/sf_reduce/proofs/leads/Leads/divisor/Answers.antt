use Rattle.std.proofs.Common.{◌≡◌, [], None, false, true, IsNone, IfSome, slice_index_or, refl, sym, ap, ◌∙◌, subst}
use Rattle.std.specs.List.{list_any}
use Rattle.std.proofs.lemmas.List.{get_or_past}
use Rattle.sf_algebra.specs.Vectors.{Place}
use Rattle.sf_reduce.specs.LeadIndex.{has_divisor, is_divisor, leads_at}
use Rattle.sf_reduce.proofs.LeadIndexes.{divisor_of}
use Rattle.sf_reduce.proofs.leads.Leads.divisor.Goals as goal

pub returns-in-None : goal.returns-in-None
returns-in-None c =
    let k : Place = c.args.term.now.at in
    let position = ap (λ t. t.at.position) c.term.view_is in
    let there : [] ≡ leads_at k.position 0 c.args.self.now =
    sym (get_or_past c.deref.result.now c.term.inside.position [] c.in-None.ensures.lookup.3)
    ∙ (λ i. slice_index_or (c.deref.ensures.value i) (position i) [])
    ∙ c.self.invariant k.position
    ∙ ap (leads_at k.position 0) c.self.view_is in
    let parts = divisor_of None k c.args.self.now [] there (λ _. refl) tt in
    record { none = parts.0; within = tt; divisor = tt }

pub returns-in-Some : goal.returns-in-Some
returns-in-Some c =
    let k : Place = c.args.term.now.at in
    let answer = c.divisor_among.result in
    let position = ap (λ t. t.at.position) c.term.view_is in
    let monomial = ap (λ t. t.at.monomial) c.term.view_is in
    let leads = c.as_slice.result.now in
    let there : leads ≡ leads_at k.position 0 c.args.self.now =
    c.as_slice.ensures.items ∙ c.in-Some.ensures.lookup.3.1 []
    ∙ (λ i. slice_index_or (c.deref.ensures.value i) (position i) [])
    ∙ c.self.invariant k.position
    ∙ ap (leads_at k.position 0) c.self.view_is in
    let none = subst (λ m. IsNone answer → list_any (has_divisor m) leads ≡ false) monomial c.divisor_among.ensures.none in
    let some = subst (λ m. IfSome answer (λ i. list_any (is_divisor i m) leads ≡ true)) monomial c.divisor_among.ensures.divisor in
    let parts = divisor_of answer k c.args.self.now leads there none some in
    record { none = parts.0; within = parts.1; divisor = parts.2 }
