use Rattle.std.proofs.Common.{◌≡◌, ◌⊎◌, ◌<◌, ◌++◌, sym, ◌∙◌, ap, inl, inr, arith, rules, length}
use Rattle.sf_algebra.specs.Monomials.{monomial_cmp}
use Rattle.sf_algebra.specs.Residues.{sum_mod}
use Rattle.sf_algebra.specs.Rings.{ones}
use Rattle.sf_algebra.proofs.Basics.Slices.{first_and_rest}
use Rattle.sf_algebra.proofs.Monomials.Orders.{monomial_cmp_linear}
use Rattle.sf_algebra.proofs.Terms.Merge.{IsMerging-Greater, IsMerging-Less, IsMerging-Equal, IsMerging-end, canonical_sum}
use Rattle.sf_poly.proofs.sums.add_terms.Goals.{in_default, in_default-2}
use Rattle.sf_poly.proofs.sums.add_terms.Goals as goal

pub loop-left-preserved-in_ok-push-in-Greater : goal.loop-left-preserved-in_ok-push-in-Greater
loop-left-preserved-in_ok-push-in-Greater c =
    let left = first_and_rest c.loop-left.left.now c.t-item.result (search rules) c.t-item.is in
    let right = first_and_rest c.loop-left.right.now c.u-item.result (search rules) c.u-item.is in
    rw c.in_ok-push-in-Greater.ensures.items
    (IsMerging-Greater (monomial_cmp ones) (monomial_cmp_linear ones) _ _ _ _ _ c.loop-left.invariant _ _ _ _ left right _ c.t.view_is (sym (λ i. monomial_cmp ones (c.t.view_is i).at (c.u.view_is i).at) ∙ sym c.cmp.ensures ∙ c.in-Greater.is))

pub loop-left-preserved-in_ok-push-in-Less : goal.loop-left-preserved-in_ok-push-in-Less
loop-left-preserved-in_ok-push-in-Less c =
    let left = first_and_rest c.loop-left.left.now c.t-item.result (search rules) c.t-item.is in
    let right = first_and_rest c.loop-left.right.now c.u-item.result (search rules) c.u-item.is in
    rw c.in_ok-push-in-Less.ensures.items
    (IsMerging-Less (monomial_cmp ones) (monomial_cmp_linear ones) _ _ _ _ _ c.loop-left.invariant _ _ _ _ left right _ c.u.view_is (sym (λ i. monomial_cmp ones (c.t.view_is i).at (c.u.view_is i).at) ∙ sym c.cmp.ensures ∙ c.in-Less.is))

pub loop-left-preserved : goal.loop-left-preserved
loop-left-preserved c =
    let left = first_and_rest c.loop-left.left.now c.t-item.result (search rules) c.t-item.is in
    let right = first_and_rest c.loop-left.right.now c.u-item.result (search rules) c.u-item.is in
    let coefficient =
    c.add-coefficient.ensures.sum
    ∙ (λ i. sum_mod c.args.modulus (c.t.view_is i).coefficient (c.u.view_is i).coefficient) in
    rw c.in_ok-push_nonzero-in-Equal.ensures.ok
    (IsMerging-Equal (monomial_cmp ones) (monomial_cmp_linear ones) _ _ _ _ _ c.loop-left.invariant _ _ _ _ left right _ (λ i. (c.t.view_is i).at) coefficient (sym (λ i. monomial_cmp ones (c.t.view_is i).at (c.u.view_is i).at) ∙ sym c.cmp.ensures ∙ c.in-Equal.is))

pub returns : goal.returns
returns c =
    let over = elim c.if-left-lt1.branch as (λ _. (length c.loop-left.left.now ≡ 0) ⊎ (length c.loop-left.right.now ≡ 0)) [
      | in_default w ↦ inl (omega (arith, w.in_default.len_below))
      | in_default-2 w ↦ let below : length c.loop-left.right.now < 1 = search rules in inr (omega (arith, below))
    ] in
    let sum =
    c.in_ok-extend_from_slice-2.ensures.items
    ∙ ap (λ l. l ++ c.loop-left.right.now) c.in_ok-extend_from_slice.ensures.items
    ∙ IsMerging-end (monomial_cmp ones) (monomial_cmp_linear ones) _ _ _ _ _ c.loop-left.invariant over in
    record {
      sum = sum;
      canonical = rw sum
          (canonical_sum (monomial_cmp ones)
          (monomial_cmp_linear ones) c.args.modulus _ _ c.requires.left c.requires.right);
    }
