-- Taking the terms at the greatest place from some lists, list by list.
use Rattle.std.proofs.Common.{◌≡◌, ℕ, zero, suc, ◌+◌, ◌<◌, ◌≤◌, List, [], ◌∷◌, Some, length, take, slice_set, refl, sym, ◌∙◌, ap, subst, arith}
use Rattle.std.proofs.lemmas.List.{take_all, take_more_set, length-set}
use Rattle.std.proofs.lemmas.Option.{slice_get_within}
use Rattle.std.specs.List.{AllByRecursion, slice_get}
use Rattle.sf_algebra.specs.Residues.{sum_mod}
use Rattle.sf_algebra.specs.Rings.{ones, plain}
use Rattle.sf_algebra.specs.Sums.{put}
use Rattle.sf_algebra.specs.Terms.{Term, IsCanonical}
use Rattle.sf_algebra.specs.VectorOperations.{row_sum}
use Rattle.sf_algebra.specs.Vectors.{Place, place_cmp}
use Rattle.sf_algebra.proofs.Arithmetic.Residues.{sum_mod-below}
use Rattle.sf_algebra.proofs.Basics.Lists.{AllByRecursion-append, AllByRecursion-weaken}
use Rattle.sf_algebra.proofs.Vectors.RowSums.{row_sum-assoc, row_sum-nil_first}
use Rattle.sf_groebner.proofs.Basics.PlaceOrder.{Less-not_Greater}
use Rattle.sf_groebner.specs.Divisions.{AreBelow}
use Rattle.sf_reduce.specs.Buckets.{AreCanonical, IsUpTo, count_of_terms, sum_of_lists}
use Rattle.sf_reduce.proofs.BucketSums.{AllByRecursion-slice_set, AreBelow-sum_of_lists, IsCanonical-sum_of_lists, count_of_terms-slice_set, put-put, row_sum-put, slice_set-same, sum_of_lists-part}

-- what has been taken from the first i lists, and what is left
pub record IsTaking (p : ℕ) (k : Place) (old : List (List (Term Place))) (i c : ℕ) (bs : List (List (Term Place))) : Type 0 where
  pub canonical : AreCanonical p bs
  pub above : AllByRecursion (IsUpTo k) bs
  pub below : AllByRecursion (AreBelow ones k) (take i bs)
  pub sum : row_sum (plain p) (put k c []) (sum_of_lists p bs) ≡ sum_of_lists p old
  pub residue : c < p
  pub size : length bs ≡ length old
  pub fewer : count_of_terms bs ≤ count_of_terms old
  pub same : count_of_terms bs ≡ count_of_terms old → bs ≡ old

length-put : (k : Place) (x : ℕ) (us : List (Term Place)) → length us ≤ length (put k x us)
length-put k zero us = omega arith
length-put k (suc x) us = omega arith

put-same : (k : Place) (x : ℕ) (us : List (Term Place)) → length us ≡ length (put k x us) → put k x us ≡ us
put-same k zero us e = refl
put-same k (suc x) us e = absurd (omega (arith, e))

module _ (p : ℕ) (positive : 0 < p) (k : Place) (old : List (List (Term Place))) where
  pub IsTaking-start : AreCanonical p old → AllByRecursion (IsUpTo k) old → IsTaking p k old 0 0 old
  IsTaking-start canonical above = record {
    canonical = canonical;
    above = above;
    below = tt;
    sum = row_sum-nil_first (plain p) positive (sum_of_lists p old) (IsCanonical-sum_of_lists p positive old);
    residue = positive;
    size = refl;
    fewer = omega arith;
    same = λ _. refl;
  }

  module _ (i c : ℕ) (bs : List (List (Term Place))) (h : IsTaking p k old i c bs) where
    pub IsTaking-next : (b us : List (Term Place)) (x : ℕ) → slice_get bs i ≡ Some b → b ≡ put k x us
        → x < p → IsCanonical (place_cmp ones) p us → AreBelow ones k us
        → IsTaking p k old (i + 1) (sum_mod p c x) (slice_set bs i us)
    IsTaking-next b us x read taken less canonical low =
        let within : i < length bs = slice_get_within bs i b read in
        let count = count_of_terms-slice_set bs i b us read in
        let sizes : length us ≤ length b = subst (λ l. length us ≤ length l) (sym taken) (length-put k x us) in
        let parts = taken ∙ row_sum-put p positive k x us less canonical low in
        record {
          canonical = AllByRecursion-slice_set _ bs i us h.canonical canonical;
          above = AllByRecursion-slice_set (IsUpTo k) bs i us h.above
              (AllByRecursion-weaken _ _ (λ t l. Less-not_Greater _ l) us low);
          below = subst (AllByRecursion (AreBelow ones k)) (sym (take_more_set bs i us within))
              (AllByRecursion-append (AreBelow ones k) (take i bs) (us ∷ []) h.below (low, tt));
          sum =
              ap (λ l. row_sum (plain p) l (sum_of_lists p (slice_set bs i us)))
              (sym (put-put p positive k c x h.residue less))
              ∙ row_sum-assoc (plain p) positive (put k c []) (put k x []) (sum_of_lists p (slice_set bs i us))
              ∙ ap (row_sum (plain p) (put k c [])) (sym (sum_of_lists-part p positive bs i b (put k x []) us within read parts))
              ∙ h.sum;
          residue = sum_mod-below p c x positive;
          size = length-set bs i us ∙ h.size;
          fewer = omega (arith, h.fewer, count, sizes);
          same = λ e.
              let whole : count_of_terms bs ≡ count_of_terms old = omega (arith, h.fewer, count, sizes, e) in
              let equal : length us ≡ length (put k x us) =
              let l : length us ≡ length b = omega (arith, h.fewer, count, sizes, e) in l ∙ ap length taken in
              ap (slice_set bs i) (sym (taken ∙ put-same k x us equal)) ∙ slice_set-same bs i b read ∙ h.same whole;
        }

    module _ (done : length old ≤ i) where
      low : AllByRecursion (AreBelow ones k) bs
      low = subst (AllByRecursion (AreBelow ones k)) (take_all i bs (omega (arith, h.size, done))) h.below

      pub IsTaking-sum : sum_of_lists p old ≡ put k c (sum_of_lists p bs)
      IsTaking-sum =
          sym h.sum
          ∙ sym (row_sum-put p positive k c (sum_of_lists p bs) h.residue (IsCanonical-sum_of_lists p positive bs) (AreBelow-sum_of_lists p k bs low))

      pub IsTaking-fewer : (AllByRecursion (AreBelow ones k) old → ⊥) → count_of_terms bs < count_of_terms old
      IsTaking-fewer reached =
          let apart : count_of_terms bs ≡ count_of_terms old → ⊥ =
          λ e. reached (subst (AllByRecursion (AreBelow ones k)) (h.same e) low) in
          let less = h.fewer in
          omega (arith, less, apart)
