use Rattle.std.proofs.Common.{◌≡◌, inl, inr, refl, sym, subst, ◌∙◌, to_z, of_z, w32, w64, rules}
use Rattle.sf_groebner.proofs.Constructions.LeadDivisors.{lead_places}
use Rattle.sf_minimal.specs.Steps.{HasFreeRow}
use Rattle.sf_minimal.proofs.steps.enter_row.Goals as goal

pub returns-then-not-has_free_row : goal.returns-then-not-has_free_row
returns-then-not-has_free_row c =
    let m = c.args.cands.now in
    let row = c.args.row.now in
    let own : to_z w32 (of_z w32 c.degree.result) ≡ row.degree = search rules in
    let wide : to_z w64 (of_z w64 c.from.result) ≡ c.from.result = search rules in
    record {
      step = inr (
        (λ (free : HasFreeRow m (lead_places c.args.pivots.now.rows) row.degree).
            let there = subst (λ ks. HasFreeRow m ks row.degree) (sym c.requires.taken) free in
            let clash = sym (c.has_free_row.ensures.row.1 (there.0, there.1, wide ∙ c.from.ensures ∙ own ∙ there.2, there.3)) ∙ c.if-not-has_free_row.true in
            cc),
        refl,
      );
      taken = c.requires.taken;
      spaces = c.requires.spaces;
    }

pub returns : goal.returns
returns c = record {
  step = inl c.in_ok-enter.ensures.step;
  taken = c.in_ok-enter.ensures.taken;
  spaces = c.in_ok-enter.ensures.spaces;
}
