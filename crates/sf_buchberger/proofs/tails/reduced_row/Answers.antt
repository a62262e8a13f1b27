use Rattle.std.proofs.Common.{◌≡◌, ◌++◌, ◌∙◌, ap, rules, slice_range, to_z, of_z, w32}
use Rattle.sf_buchberger.proofs.MoreTails.{HasReducedTail-rest, IsDescending-rest}
use Rattle.sf_buchberger.proofs.tails.reduced_row.Goals as goal

pub from_canonical-requires-clause-descending : goal.from_canonical-requires-clause-descending
from_canonical-requires-clause-descending c =
    let rows = c.args.rows.now in
    let v = c.args.v.now in
    let items : c.extend_from_slice-2.new.self.items ≡ slice_range v.terms 0 1 ++ c.in_ok-rest.rest.terms =
    c.in_ok-extend_from_slice-2.ensures.items
    ∙ (λ i. (c.in_ok-extend_from_slice.ensures.items ∙ (λ j. c.in_ok-terms.ensures.items j ++ slice_range (c.terms.ensures.terms j) 0 1)) i ++ c.terms-2.ensures.terms i) in
    let weights = ap (λ r. r.weights) c.modulus.ensures.ring in
    let whole = rw weights at (IsDescending-rest rows v c.requires.vector c.requires.lead c.in_ok-rest.rest.terms c.in_ok-rest.ensures.rest) in
    rw items whole

pub returns : goal.returns
returns c =
    let rows = c.args.rows.now in
    let v = c.args.v.now in
    let items : c.extend_from_slice-2.new.self.items ≡ slice_range v.terms 0 1 ++ c.in_ok-rest.rest.terms =
    c.in_ok-extend_from_slice-2.ensures.items
    ∙ (λ i. (c.in_ok-extend_from_slice.ensures.items ∙ (λ j. c.in_ok-terms.ensures.items j ++ slice_range (c.terms.ensures.terms j) 0 1)) i ++ c.terms-2.ensures.terms i) in
    let degree : to_z w32 (of_z w32 c.degree.result) ≡ v.degree = search rules in
    let whole = HasReducedTail-rest rows v c.requires.vector c.requires.lead c.in_ok-rest.rest.terms c.in_ok-rest.ensures.rest in
    record { tail = rw (c.from_canonical.ensures.vector, degree, items) whole }
