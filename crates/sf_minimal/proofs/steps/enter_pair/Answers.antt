use Rattle.std.proofs.Common.{◌≡◌, ◌<◌, inl, inr, refl, sym, ap, subst, ◌∙◌, arith, length, to_z, of_z, w64, rules}
use Rattle.sf_algebra.specs.Rings.{Ring, Weights}
use Rattle.sf_algebra.specs.Vectors.{Vector, place_degree}
use Rattle.sf_groebner.specs.Criterion.{lcm_place, lead_at, s_vector}
use Rattle.sf_groebner.specs.Spans.{InSpan}
use Rattle.sf_groebner.proofs.Constructions.LeadDivisors.{lead_places}
use Rattle.sf_minimal.specs.Steps.{HasFreeRow, IsStep, pair_degree}
use Rattle.sf_minimal.proofs.Dividing.{not_unequal, over_plain, pair-inside, row_room}
use Rattle.sf_minimal.proofs.steps.enter_pair.Goals as goal

pub returns-then-not-has_free_row : goal.returns-then-not-has_free_row
returns-then-not-has_free_row c =
    let m = c.args.cands.now in
    let d = pair_degree m c.args.i c.args.j in
    let wide : to_z w64 (of_z w64 c.in-Some.degree) ≡ c.in-Some.degree = search rules in
    let weights = ap (λ (r : Ring). place_degree r.weights m.target (lcm_place (lead_at m.rows) c.args.i c.args.j)) c.matrix_facts.ensures.weights in
    record {
      step = inr (
        inr (inr (λ (free : HasFreeRow m (lead_places c.args.pivots.now.rows) d).
            let there = subst (λ ks. HasFreeRow m ks d) (sym c.requires.taken) free in
            let clash = sym (c.has_free_row.ensures.row.1 (there.0, there.1, wide ∙ c.in-Some.ensures.degree ∙ sym weights ∙ there.2, there.3)) ∙ c.if-not-has_free_row.true in
            cc)),
        refl,
      );
      taken = c.requires.taken;
      spaces = c.requires.spaces;
    }

pub returns-then-is_passed_over : goal.returns-then-is_passed_over
returns-then-is_passed_over c =
    record { step = inr (inr (inl (c.is_passed_over.ensures.over.0 c.if-is_passed_over.true)), refl); taken = c.requires.taken; spaces = c.requires.spaces }

pub s_sum-requires-clause-room : goal.s_sum-requires-clause-room
s_sum-requires-clause-room c =
    let m = c.args.cands.now in
    let facts = c.matrix_facts.ensures in
    let wide : to_z w64 (of_z w64 c.in-Some.degree) ≡ c.in-Some.degree = search rules in
    let found = c.has_free_row.ensures.row.0 c.if-not-has_free_row.false in
    row_room m (over_plain m.ring facts.weights facts.prime) facts.matrix c.requires.basis _
    (found.0, found.1, sym c.in-Some.ensures.degree ∙ sym wide ∙ found.2)

pub enter-requires-clause-inside : goal.enter-requires-clause-inside
enter-requires-clause-inside c =
    let m = c.args.cands.now in
    let facts = c.matrix_facts.ensures in
    let positions = not_unequal _ _ c.in-Some.ensures.none.1 in
    let first : c.args.i < length m.rows = let a = c.requires.first in let b = c.requires.second in omega (arith, a, b) in
    let inside = pair-inside m (over_plain m.ring facts.weights facts.prime) facts.matrix c.requires.basis c.args.i c.args.j first c.requires.second positions in
    subst (InSpan m) (sym (c.in_ok-v.ensures.vector ∙ c.in_ok-s_sum.ensures.sum))
    (subst (λ (w : Weights). InSpan m (record { degree = place_degree w m.target (lcm_place (lead_at m.rows) c.args.i c.args.j); terms = s_vector m.ring m.rows c.args.i c.args.j }))
    (ap (λ (r : Ring). r.weights) facts.weights) inside)

pub returns : goal.returns
returns c =
    let m = c.args.cands.now in
    let facts = c.matrix_facts.ensures in
    record {
      step = inl (
        not_unequal _ _ c.in-Some.ensures.none.1,
        subst (λ (w : Weights). IsStep m c.args.pivots.now c.enter.new.pivots (place_degree w m.target (lcm_place (lead_at m.rows) c.args.i c.args.j)) (s_vector m.ring m.rows c.args.i c.args.j))
            (sym (ap (λ (r : Ring). r.weights) facts.weights))
            (subst (λ (x : Vector). IsStep m c.args.pivots.now c.enter.new.pivots x.degree x.terms) (c.in_ok-v.ensures.vector ∙ c.in_ok-s_sum.ensures.sum) c.in_ok-enter.ensures.step),
      );
      taken = c.in_ok-enter.ensures.taken;
      spaces = c.in_ok-enter.ensures.spaces;
    }

pub enter-requires-clause-degree : goal.enter-requires-clause-degree
enter-requires-clause-degree c =
    let wide : to_z w64 (of_z w64 c.in-Some.degree) ≡ c.in-Some.degree = search rules in
    let found = c.has_free_row.ensures.row.0 c.if-not-has_free_row.false in
    let own = ap (λ (v : Vector). v.degree) (c.in_ok-v.ensures.vector ∙ c.in_ok-s_sum.ensures.sum) in
    (found.0, found.1, own ∙ sym c.in-Some.ensures.degree ∙ sym wide ∙ found.2)
