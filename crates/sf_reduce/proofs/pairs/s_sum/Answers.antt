use Rattle.std.proofs.Common.{◌≤◌, sym, ap, subst, ◌∙◌, arith}
use Rattle.sf_algebra.specs.Bounds.{GREATEST_SUM}
use Rattle.sf_algebra.specs.Matrices.{degrees_of}
use Rattle.sf_algebra.specs.MatrixOperations.{row_at}
use Rattle.sf_algebra.specs.Monomials.{exponent_sum}
use Rattle.sf_algebra.specs.Residues.{negative_mod}
use Rattle.sf_algebra.specs.Rings.{ones, plain}
use Rattle.sf_algebra.specs.Terms.{IsNonzeroResidue, Term}
use Rattle.sf_algebra.specs.VectorOperations.{row_multiple, row_sum}
use Rattle.sf_algebra.specs.Vectors.{IsTermOfDegree, Place, place_degree}
use Rattle.sf_algebra.proofs.Arithmetic.Residues.{negative_mod-positive}
use Rattle.sf_groebner.specs.Criterion.{lcm_place, lead_at, pair_place}
use Rattle.sf_groebner.proofs.PairTheorems.Pairs.{lcm_place-comm}
use Rattle.sf_matrix.specs.Bounds.{DegreeFits, IsDegree}
use Rattle.sf_matrix.specs.Places.{factor_of}
use Rattle.sf_reduce.specs.TermSums.{TermSum}
use Rattle.sf_reduce.proofs.PairSums.{lcm_fits, pair_degree, pair_term-degree, s_vector-sum}
use Rattle.sf_reduce.proofs.pairs.s_sum.Goals as goal

pub pair_coefficient-first-requires-clause-fits : goal.pair_coefficient-first-requires-clause-fits
pair_coefficient-first-requires-clause-fits c =
    let m = c.args.basis.now in
    lcm_fits m c.basis_facts.ensures.matrix c.requires.monic m.ring.modulus c.basis_facts.ensures.prime
    c.basis_facts.ensures.weights c.args.i c.args.j c.requires.first c.requires.second c.requires.room

pub pair_coefficient-second-requires-clause-fits : goal.pair_coefficient-second-requires-clause-fits
pair_coefficient-second-requires-clause-fits c =
    let m = c.args.basis.now in
    subst (λ (k : Place). exponent_sum k.monomial ≤ GREATEST_SUM)
    (lcm_place-comm (lead_at m.rows) c.args.i c.args.j c.requires.positions)
    (lcm_fits m c.basis_facts.ensures.matrix c.requires.monic m.ring.modulus c.basis_facts.ensures.prime c.basis_facts.ensures.weights c.args.i c.args.j c.requires.first c.requires.second c.requires.room)

pub zero_of_degree-sum-requires-clause-degree : goal.zero_of_degree-sum-requires-clause-degree
zero_of_degree-sum-requires-clause-degree c =
    let m = c.args.basis.now in
    let degree = ap (λ (t : Term Place). place_degree ones (degrees_of m.rows) t.at) c.pair_coefficient-first.ensures ∙ pair_degree m c.basis_facts.ensures.matrix c.requires.monic m.ring.modulus c.basis_facts.ensures.prime c.basis_facts.ensures.weights c.args.i c.args.j c.requires.first c.requires.second in
    subst IsDegree (sym degree) c.requires.degree

pub push_row-requires-clause-room : goal.push_row-requires-clause-room
push_row-requires-clause-room c =
    let m = c.args.basis.now in
    let degree = ap (λ (s : TermSum). s.degree) c.zero_of_degree-sum.ensures ∙ ap (λ (t : Term Place). place_degree ones (degrees_of m.rows) t.at) c.pair_coefficient-first.ensures ∙ pair_degree m c.basis_facts.ensures.matrix c.requires.monic m.ring.modulus c.basis_facts.ensures.prime c.basis_facts.ensures.weights c.args.i c.args.j c.requires.first c.requires.second in
    subst (DegreeFits m.target) (sym degree) c.requires.room

pub push_row-requires-2-clause-residue : goal.push_row-requires-2-clause-residue
push_row-requires-2-clause-residue c =
    let p = c.modulus-modulus.result in
    let above = c.facts.ensures.above_one in
    let value = negative_mod-positive p 1 (omega arith) above in
    let negative : IsNonzeroResidue p (record { at = pair_place (lead_at c.args.basis.now.rows) c.args.j c.args.i; coefficient = negative_mod p 1 }) = (omega (arith, value, above), omega (arith, value, above)) in
    let modulus = c.in_ok-push_row.ensures.modulus ∙ ap (λ (s : TermSum). s.modulus) c.zero_of_degree-sum.ensures in
    subst (λ q. IsNonzeroResidue q c.pair_coefficient-second.result) (sym modulus)
    (subst (IsNonzeroResidue p) (sym (c.pair_coefficient-second.ensures ∙ (λ k. record { at = pair_place (lead_at c.args.basis.now.rows) c.args.j c.args.i; coefficient = c.neg.ensures.negative k }))) negative)

pub push_row-requires-2-clause-degree : goal.push_row-requires-2-clause-degree
push_row-requires-2-clause-degree c =
    let m = c.args.basis.now in
    let own = ap (λ (s : TermSum). s.degree) c.zero_of_degree-sum.ensures ∙ ap (λ (t : Term Place). place_degree ones (degrees_of m.rows) t.at) c.pair_coefficient-first.ensures ∙ pair_degree m c.basis_facts.ensures.matrix c.requires.monic m.ring.modulus c.basis_facts.ensures.prime c.basis_facts.ensures.weights c.args.i c.args.j c.requires.first c.requires.second in
    let degree = c.in_ok-push_row.ensures.degree ∙ own ∙ ap (place_degree ones m.target) (lcm_place-comm (lead_at m.rows) c.args.i c.args.j c.requires.positions) in
    subst (λ d. IsTermOfDegree ones (degrees_of m.rows) d c.pair_coefficient-second.result) (sym degree)
    (subst (IsTermOfDegree ones (degrees_of m.rows) (place_degree ones m.target (lcm_place (lead_at m.rows) c.args.j c.args.i))) (sym c.pair_coefficient-second.ensures) (pair_term-degree m c.basis_facts.ensures.matrix c.requires.monic m.ring.modulus c.basis_facts.ensures.prime c.basis_facts.ensures.weights c.args.j c.args.i c.requires.second c.requires.first c.neg.result))

pub push_row-requires-2-clause-room : goal.push_row-requires-2-clause-room
push_row-requires-2-clause-room c =
    let m = c.args.basis.now in
    let own = ap (λ (s : TermSum). s.degree) c.zero_of_degree-sum.ensures ∙ ap (λ (t : Term Place). place_degree ones (degrees_of m.rows) t.at) c.pair_coefficient-first.ensures ∙ pair_degree m c.basis_facts.ensures.matrix c.requires.monic m.ring.modulus c.basis_facts.ensures.prime c.basis_facts.ensures.weights c.args.i c.args.j c.requires.first c.requires.second in
    subst (DegreeFits m.target) (sym (c.in_ok-push_row.ensures.degree ∙ own)) c.requires.room

pub returns-clause-sum : goal.returns-clause-sum
returns-clause-sum c =
    let m = c.args.basis.now in
    let p = c.modulus-modulus.result in
    let own = ap (λ (s : TermSum). s.degree) c.zero_of_degree-sum.ensures ∙ ap (λ (t : Term Place). place_degree ones (degrees_of m.rows) t.at) c.pair_coefficient-first.ensures ∙ pair_degree m c.basis_facts.ensures.matrix c.requires.monic m.ring.modulus c.basis_facts.ensures.prime c.basis_facts.ensures.weights c.args.i c.args.j c.requires.first c.requires.second in
    let degree = c.in_ok-push_row-2.ensures.degree ∙ c.in_ok-push_row.ensures.degree ∙ own in
    let zero_modulus = ap (λ (s : TermSum). s.modulus) c.zero_of_degree-sum.ensures in
    let modulus = c.in_ok-push_row.ensures.modulus ∙ zero_modulus in
    let none = ap (λ (s : TermSum). s.terms) c.zero_of_degree-sum.ensures in
    let a = c.pair_coefficient-first.ensures in
    let b = c.pair_coefficient-second.ensures ∙ (λ k. record { at = pair_place (lead_at m.rows) c.args.j c.args.i; coefficient = c.neg.ensures.negative k }) in
    let first = c.in_ok-push_row.ensures.sum ∙ (λ k. row_sum (plain (zero_modulus k)) (none k) (row_multiple (plain (zero_modulus k)) (factor_of (a k)) (row_at m.rows (a k).at.position))) in
    let terms = c.in_ok-push_row-2.ensures.sum
    ∙ (λ k. row_sum (plain (modulus k)) (first k) (row_multiple (plain (modulus k)) (factor_of (b k)) (row_at m.rows (b k).at.position)))
    ∙ s_vector-sum m c.basis_facts.ensures.matrix c.requires.monic p c.facts.ensures.prime c.modulus-modulus.ensures.ring c.args.i c.args.j c.requires.first c.requires.second in
    λ k. record { degree = degree k; terms = terms k }
