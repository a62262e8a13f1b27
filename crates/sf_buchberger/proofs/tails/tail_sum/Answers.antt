use Rattle.std.proofs.Common.{◌≡◌, ◌∙◌, rules, to_z, of_z, w32, length, slice_range, refl}
use Rattle.sf_algebra.specs.Rings.{plain}
use Rattle.sf_algebra.specs.VectorOperations.{row_sum}
use Rattle.sf_groebner.specs.Divisions.{tail_of}
use Rattle.sf_buchberger.proofs.MoreTails.{tail_added}
use Rattle.sf_buchberger.proofs.tails.tail_sum.Goals as goal

pub returns-clause-tail : goal.returns-clause-tail
returns-clause-tail c =
    let m = c.args.rows.now in
    let v = c.args.v.now in
    let ts = c.terms.result.now in
    let start = c.new-tail.ensures.zero in
    let degree : to_z w32 (of_z w32 c.degree.result) ≡ v.degree = search rules in
    let terms : c.push_all.new.self.terms ≡ tail_of v.terms =
    c.in_ok-push_all.ensures.sum
    ∙ (λ i. row_sum (plain (start i).modulus) (start i).terms (slice_range ts 1 (length ts)))
    ∙ tail_added m.ring m.target v c.modulus-modulus.result c.modulus-modulus.ensures.ring c.facts.ensures.positive c.requires.vector c.requires.lead ts c.terms.ensures.terms in
    rw (c.in_ok-push_all.ensures.degree, start, degree, terms) refl
