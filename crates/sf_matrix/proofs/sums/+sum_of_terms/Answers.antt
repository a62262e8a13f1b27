use Rattle.std.proofs.Common.{◌≡◌, ◌/◌, ◌%◌, ◌<◌, IfOk, [], ◌++◌, ap, sym, ◌∙◌, arith, rules, length, subst}
use Rattle.std.proofs.lemmas.List.{nil_from_length}
use Rattle.sf_algebra.specs.Rings.{ones}
use Rattle.sf_algebra.specs.Sums.{put, normal, add}
use Rattle.sf_algebra.specs.Terms.{IsCanonical}
use Rattle.sf_algebra.specs.Vectors.{place_cmp}
use Rattle.sf_algebra.proofs.Basics.Slices.{only_item}
use Rattle.sf_algebra.proofs.Monomials.Orders.{place_cmp_linear}
use Rattle.sf_algebra.proofs.Terms.Normal.{IsCanonical-normal}
use Rattle.sf_algebra.proofs.Terms.Sums.{normal-canonical, normal-nil, normal-one, normal-halves}
use Rattle.sf_matrix.proofs.sums.+sum_of_terms.Goals as goal

pub returns-then-are_canonical-clause-sum : goal.returns-then-are_canonical-clause-sum
returns-then-are_canonical-clause-sum t c =
    let positive : 0 < c.args.modulus = omega (arith, c.value-p.ensures.above_one, c.value-p.ensures.same) in
    let canonical : IsCanonical (place_cmp ones) c.args.modulus c.args.terms.now = search rules in
    rw (c.in_ok-extend_from_slice.ensures.items, c.in_ok-sum.ensures.items)
    (sym (normal-canonical (place_cmp ones) (place_cmp_linear ones) c.args.modulus positive c.args.terms.now canonical))

pub returns-in-empty : goal.returns-in-empty
returns-in-empty t c =
    let none : length c.args.terms.now ≡ 0 = omega arith in
    let positive : 0 < c.args.modulus = omega (arith, c.value-p.ensures.above_one, c.value-p.ensures.same) in
    let sum = c.new.ensures.items ∙ sym (normal-nil (place_cmp ones) c.args.modulus) ∙ ap (normal (place_cmp ones) c.args.modulus) (sym (nil_from_length c.args.terms.now none)) in
    record {
      sum = sum;
      canonical = rw sum
          (IsCanonical-normal (place_cmp ones) (place_cmp_linear ones) c.args.modulus positive c.args.terms.now);
    }

pub returns-in_ok-push_nonzero-in-len1 : goal.returns-in_ok-push_nonzero-in-len1
returns-in_ok-push_nonzero-in-len1 t c =
    let one : length c.args.terms.now ≡ 1 = omega arith in
    let positive : 0 < c.args.modulus = omega (arith, c.value-p.ensures.above_one, c.value-p.ensures.same) in
    let sum =
    c.in_ok-push_nonzero-in-len1.ensures.ok
    ∙ (λ i. c.in_ok-sum-in-len1.ensures.items i ++ put (c.t.view_is i).at ((c.t.view_is i).coefficient % c.value-p.ensures.same i) [])
    ∙ sym (normal-one (place_cmp ones) c.args.modulus c.t-item.result)
    ∙ ap (normal (place_cmp ones) c.args.modulus) (sym (only_item c.args.terms.now c.t-item.result one c.t-item.is)) in
    record {
      sum = sum;
      canonical = rw sum
          (IsCanonical-normal (place_cmp ones) (place_cmp_linear ones) c.args.modulus positive c.args.terms.now);
    }

pub returns-in_ok-back-in_default : goal.returns-in_ok-back-in_default
returns-in_ok-back-in_default t c =
    let positive : 0 < c.args.modulus = omega (arith, c.value-p.ensures.above_one, c.value-p.ensures.same) in
    let front =
    c.deref.ensures.value ∙ c.in_ok-front-in_default.ensures.sum
    ∙ ap (normal (place_cmp ones) c.args.modulus) c.split_at.ensures.front in
    let back =
    c.deref-in_default.ensures.value ∙ c.in_ok-back-in_default.ensures.sum
    ∙ ap (normal (place_cmp ones) c.args.modulus) c.split_at.ensures.back in
    let halves = (λ i. add (place_cmp ones) c.args.modulus (front i) (back i)) ∙ sym (normal-halves (place_cmp ones) (place_cmp_linear ones) c.args.modulus positive (length c.args.terms.now / 2) c.args.terms.now) in
    record {
      sum = subst
          (λ l. IfOk c.add_terms.result (λ v. v.items ≡ l)) halves c.add_terms.ensures.sum;
      canonical = c.add_terms.ensures.canonical;
    }
