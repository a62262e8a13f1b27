use Rattle.std.proofs.Common.{◌≡◌, ap, sym, subst, map, length, ◌++◌, ◌∷◌, [], ◌∙◌, rules}
use Rattle.std.proofs.lemmas.List.{length-map, map-append}
use Rattle.sf_algebra.specs.Terms.{Term}
use Rattle.sf_algebra.specs.Vectors.{Place}
use Rattle.sf_reduce.specs.LeadIndex.{HasOneMore, IsIndex}
use Rattle.sf_reduce.proofs.LeadIndexes.{IsIndex-push}
use Rattle.sf_reduce.proofs.leads.Leads.push.Goals as goal

abbrev at : Term Place → Place
at t = t.at

pub invariant_of-self-in-Ok : goal.invariant_of-self-in-Ok
invariant_of-self-in-Ok c =
    let old = c.self.inside.index.items in
    let new = c.enter_lead.new.index.items in
    let places = c.self.inside.places.items in
    let k : Place = c.args.lead.now.at in
    let position = ap (λ t. t.at.position) c.lead.view_is in
    let monomial = ap (λ t. t.at.monomial) c.lead.view_is in
    let number : c.len-row.result ≡ length (map at places) = search (rules, length-map) in
    let more : HasOneMore k.position (record { row = length (map at places); monomial = k.monomial }) old new = subst (λ n. HasOneMore k.position (record { row = n; monomial = k.monomial }) old new) number
    (subst (λ (l : Place). HasOneMore l.position (record { row = c.len-row.result; monomial = l.monomial }) old new)
    (λ i. record { position = position i; monomial = monomial i }) c.in-Ok.ensures.ok) in
    let pushed : map at c.push.new.self.items ≡ map at places ++ k ∷ [] =
    ap (map at) (c.in_ok-push.ensures.items ∙ ap (λ t. places ++ t ∷ []) c.lead.view_is)
    ∙ map-append at places (c.args.lead.now ∷ []) in
    subst (IsIndex new) (sym pushed) (IsIndex-push old new (map at places) k c.self.invariant more)
