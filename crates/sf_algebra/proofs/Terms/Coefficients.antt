-- A canonical list is the only one with its coefficients.
use Rattle.std.proofs.Common.{◌≡◌, ◌≢◌, ℕ, ◌%◌, ◌<◌, if◌then◌else◌, Bool, true, false, List, [], ◌∷◌, refl, sym, ◌∙◌, ap, arith}
use Rattle.std.proofs.Math.Nat.{mod-eq_of_lt, zero-mod}
use Rattle.std.specs.declared.cmp.Ordering.{Ordering}
use Rattle.std.specs.declared.cmp.Ordering.TheVariants.{Less}
use Rattle.std.specs.Ordering.{is_eq, ordering_reverse}
use Rattle.std.proofs.lemmas.Cmp.{tied_itself}
use Rattle.sf_algebra.specs.Orders.{IsLinearOrder}
use Rattle.sf_algebra.specs.Residues.{sum_mod}
use Rattle.sf_algebra.specs.Sums.{normal, total, part_at, coefficient_at}
use Rattle.sf_algebra.specs.Terms.{Term, IsCanonical}
use Rattle.sf_algebra.proofs.Arithmetic.Residues.{sum_mod-cancel, sum_mod-reduced, sum_mod-zero}
use Rattle.sf_algebra.proofs.Monomials.Orders.{ordering_cases}
use Rattle.sf_algebra.proofs.Terms.Normal.{IsAboveEach, IsAboveEach-trans}
use Rattle.sf_algebra.proofs.Terms.Totals.{IsAdditive, total-nil, total-cons, total-normal, total-reduced}

module _ {K : Type 0} (cmp : K → K → Ordering) (p : ℕ) where
  pub part_at-additive : (k : K) → IsAdditive p (part_at cmp k)
  part_at-additive k = record { at_zero = λ l. none (is_eq (cmp l k)); at_sum = λ l. sums (is_eq (cmp l k)) }
    where
      none : (b : Bool) → (if b then 0 else 0) % p ≡ 0
      none true = zero-mod p
      none false = zero-mod p

      sums : (b : Bool) (m n : ℕ)
          → (if b then sum_mod p m n else 0) % p ≡ sum_mod p (if b then m else 0) (if b then n else 0)
      sums true m n = sum_mod-reduced p m n
      sums false m n = sym (sum_mod-zero p 0)

  -- where each place is less than k, nothing stands at k
  pub coefficient_at-above : (k : K) (us : List (Term K)) → IsAboveEach cmp k us → coefficient_at cmp p k us ≡ 0
  coefficient_at-above k [] above = total-nil p (part_at cmp k)
  coefficient_at-above k (u ∷ us) above =
      total-cons p (part_at cmp k) u us
      ∙ ap (λ o. sum_mod p (if is_eq o then u.coefficient else 0) (coefficient_at cmp p k us)) above.0
      ∙ ap (sum_mod p 0) (coefficient_at-above k us above.1)
      ∙ sum_mod-zero p 0
      ∙ zero-mod p

  pub IsCanonical-tail : (t : Term K) (ts : List (Term K)) → IsCanonical cmp p (t ∷ ts) → IsCanonical cmp p ts
  IsCanonical-tail t ts h = record { descending = h.descending.1; residues = h.residues.1 }

module _ {K : Type 0} (cmp : K → K → Ordering) (order : IsLinearOrder cmp) (p : ℕ) where
  -- the coefficient at the first term's place is that term's
  pub coefficient_at-head : (t : Term K) (ts : List (Term K)) → IsCanonical cmp p (t ∷ ts)
      → coefficient_at cmp p t.at (t ∷ ts) ≡ t.coefficient
  coefficient_at-head t ts h =
      total-cons p (part_at cmp t.at) t ts
      ∙ ap (λ o. sum_mod p (if is_eq o then t.coefficient else 0) (coefficient_at cmp p t.at ts))
      (tied_itself order.total t.at)
      ∙ ap (sum_mod p t.coefficient) (coefficient_at-above cmp p t.at ts h.descending.0)
      ∙ sum_mod-zero p t.coefficient
      ∙ mod-eq_of_lt h.residues.0.1

  -- two canonical lists whose coefficients agree do not begin at different places
  not_first : (t : Term K) (ts us : List (Term K)) → IsCanonical cmp p (t ∷ ts) → IsAboveEach cmp t.at us
      → coefficient_at cmp p t.at (t ∷ ts) ≢ coefficient_at cmp p t.at us
  not_first t ts us h above same =
      let none : t.coefficient ≡ 0 =
      sym (coefficient_at-head t ts h) ∙ same ∙ coefficient_at-above cmp p t.at us above in
      let some : 0 < t.coefficient = h.residues.0.0 in
      omega arith

  pub same_from_coefficients : 0 < p → (us vs : List (Term K)) → IsCanonical cmp p us → IsCanonical cmp p vs
      → ((k : K) → coefficient_at cmp p k us ≡ coefficient_at cmp p k vs) → us ≡ vs
  same_from_coefficients positive [] [] h k same = refl
  same_from_coefficients positive [] (v ∷ vs) h k same = absurd (not_first v vs [] k tt (sym (same v.at)))
  same_from_coefficients positive (u ∷ us) [] h k same = absurd (not_first u us [] h tt (same u.at))
  same_from_coefficients positive (u ∷ us) (v ∷ vs) h k same =
      ordering_cases (cmp u.at v.at)
      (λ less. absurd (not_first v vs (u ∷ us) k (less, IsAboveEach-trans cmp order v.at u.at us less h.descending.0) (sym (same v.at))))
      (λ equal.
      let place : u.at ≡ v.at = order.apart u.at v.at equal in
      let head : u.coefficient ≡ v.coefficient =
      sym (coefficient_at-head u us h) ∙ same u.at ∙ ap (λ l. coefficient_at cmp p l (v ∷ vs)) place
      ∙ coefficient_at-head v vs k in
      let first : u ≡ v = λ i. record { at = place i; coefficient = head i } in
      let rest : us ≡ vs =
      same_from_coefficients positive us vs (IsCanonical-tail cmp p u us h) (IsCanonical-tail cmp p v vs k)
      (λ l. tails l first) in
      λ i. first i ∷ rest i)
      (λ greater.
      let less : cmp v.at u.at ≡ Less = order.total.antisymm v.at u.at ∙ ap ordering_reverse greater in
      absurd (not_first u us (v ∷ vs) h (less, IsAboveEach-trans cmp order u.at v.at vs less k.descending.0) (same u.at)))
    where
      tails : (l : K) → u ≡ v → coefficient_at cmp p l us ≡ coefficient_at cmp p l vs
      tails l first =
          sym (total-reduced p (part_at cmp l) us)
          ∙ sum_mod-cancel p (part_at cmp l u) _ _ positive
          (sym (total-cons p (part_at cmp l) u us) ∙ same l ∙ total-cons p (part_at cmp l) v vs ∙ ap (λ t. sum_mod p (part_at cmp l t) (coefficient_at cmp p l vs)) (sym first))
          ∙ total-reduced p (part_at cmp l) vs

  -- it is enough that the totals agree of each number that is additive in the coefficient
  pub same_from_total : 0 < p → (us vs : List (Term K)) → IsCanonical cmp p us → IsCanonical cmp p vs
      → ((g : Term K → ℕ) → IsAdditive p g → total p g us ≡ total p g vs) → us ≡ vs
  same_from_total positive us vs h k same =
      same_from_coefficients positive us vs h k (λ l. same (part_at cmp l) (part_at-additive cmp p l))

  -- a list of terms and the canonical list that it means have the same coefficients
  pub coefficient_at-normal : (k : K) (ts : List (Term K))
      → coefficient_at cmp p k (normal cmp p ts) ≡ coefficient_at cmp p k ts
  coefficient_at-normal k ts = total-normal cmp order p (part_at cmp k) (part_at-additive cmp p k) ts
