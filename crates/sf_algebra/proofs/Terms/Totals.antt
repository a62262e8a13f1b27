-- Sums modulo p of a number for each term. Where the number is additive in the coefficient, a list and its canonical list
-- have one total: the law that carries every equation of sums.
use Rattle.std.proofs.Common.{◌≡◌, ℕ, zero, suc, ◌%◌, List, [], ◌∷◌, ◌++◌, refl, sym, ◌∙◌, ap}
use Rattle.std.proofs.Math.Nat.{add-mod-mod, mod-add-mod, mod-mod, zero-mod}
use Rattle.std.specs.declared.cmp.Ordering.{Ordering}
use Rattle.std.specs.List.{sum_by}
use Rattle.std.specs.List.Sorted.{IsPermutation}
use Rattle.std.proofs.lemmas.List.Sorted.{sum_by-IsPermutation}
use Rattle.std.proofs.lemmas.List.Sums.{sum_by-append, sum_by-cons}
use Rattle.sf_algebra.specs.Orders.{IsLinearOrder}
use Rattle.sf_algebra.specs.Residues.{sum_mod}
use Rattle.sf_algebra.specs.Sums.{put, insert, normal, add, total}
use Rattle.sf_algebra.specs.Terms.{Term}
use Rattle.sf_algebra.proofs.Arithmetic.Residues.{sum_mod-assoc, sum_mod-comm, sum_mod-first, sum_mod-second, sum_mod-zero, sum_mod-zero_first}
use Rattle.sf_algebra.proofs.Monomials.Orders.{match_ordering_cases}

-- a number for each term that is additive in the coefficient, modulo p
pub record IsAdditive {K : Type 0} (p : ℕ) (g : Term K → ℕ) : Type 0 where
  pub at_zero : (k : K) → g (record { at = k; coefficient = 0 }) % p ≡ 0
  pub at_sum : (k : K) (a b : ℕ)
      → g (record { at = k; coefficient = sum_mod p a b }) % p
      ≡ sum_mod p (g (record { at = k; coefficient = a })) (g (record { at = k; coefficient = b }))

module _ {K : Type 0} (p : ℕ) (g : Term K → ℕ) where
  pub total-nil : total p g [] ≡ 0
  unfolding total
  total-nil = zero-mod p

  pub total-cons : (t : Term K) (ts : List (Term K)) → total p g (t ∷ ts) ≡ sum_mod p (g t) (total p g ts)
  unfolding total sum_mod
  total-cons t ts = rw (sum_by-cons g t ts) (sym (add-mod-mod (g t) (sum_by g ts) p))

  pub total-append : (ts us : List (Term K)) → total p g (ts ++ us) ≡ sum_mod p (total p g ts) (total p g us)
  unfolding total sum_mod
  total-append ts us = rw (sum_by-append g ts us) (sym (add-mod-mod _ _ p ∙ mod-add-mod _ p _))

  pub total-reduced : (ts : List (Term K)) → total p g ts % p ≡ total p g ts
  unfolding total
  total-reduced ts = mod-mod (sum_by g ts) p

  -- the order of the terms doesn't matter
  pub total-IsPermutation : (ts us : List (Term K)) → IsPermutation ts us → total p g us ≡ total p g ts
  unfolding total
  total-IsPermutation ts us h = ap (λ n. n % p) (sum_by-IsPermutation g ts us h)

module _ {K : Type 0} (p : ℕ) (g : Term K → ℕ) (additive : IsAdditive p g) where
  -- a coefficient may be reduced
  pub additive-reduced : (k : K) (c : ℕ)
      → g (record { at = k; coefficient = c % p }) % p ≡ g (record { at = k; coefficient = c }) % p
  additive-reduced k c =
      ap (λ n. g (record { at = k; coefficient = n }) % p) (sym (sum_mod-zero p c))
      ∙ additive.at_sum k c 0
      ∙ sym (sum_mod-second p _ _)
      ∙ ap (sum_mod p (g (record { at = k; coefficient = c }))) (additive.at_zero k)
      ∙ sum_mod-zero p _

  pub total-put : (k : K) (c : ℕ) (us : List (Term K))
      → total p g (put k c us) ≡ sum_mod p (g (record { at = k; coefficient = c })) (total p g us)
  total-put k zero us =
      sym (total-reduced p g us)
      ∙ sym (sum_mod-zero_first p (total p g us))
      ∙ ap (λ n. sum_mod p n (total p g us)) (sym (additive.at_zero k))
      ∙ sum_mod-first p _ _
  total-put k (suc c) us = total-cons p g (record { at = k; coefficient = suc c }) us

  total-put_reduced : (k : K) (c : ℕ) (us : List (Term K))
      → total p g (put k (c % p) us) ≡ sum_mod p (g (record { at = k; coefficient = c })) (total p g us)
  total-put_reduced k c us =
      total-put k (c % p) us
      ∙ sym (sum_mod-first p _ _)
      ∙ ap (λ n. sum_mod p n (total p g us)) (additive-reduced k c)
      ∙ sum_mod-first p _ _

module _ {K : Type 0} (cmp : K → K → Ordering) (order : IsLinearOrder cmp) (p : ℕ) (g : Term K → ℕ)
    (additive : IsAdditive p g) where
  pub total-insert : (t : Term K) (us : List (Term K)) → total p g (insert cmp p t us) ≡ sum_mod p (g t) (total p g us)
  unfolding insert
  total-insert t [] = total-put_reduced p g additive t.at t.coefficient []
  total-insert t (u ∷ us) =
      match_ordering_cases (cmp t.at u.at) _ _ _ (λ l. total p g l ≡ sum_mod p (g t) (total p g (u ∷ us)))
      (λ less.
      total-cons p g u (insert cmp p t us)
      ∙ ap (sum_mod p (g u)) (total-insert t us)
      ∙ sym (sum_mod-assoc p _ _ _)
      ∙ ap (λ n. sum_mod p n (total p g us)) (sum_mod-comm p _ _)
      ∙ sum_mod-assoc p _ _ _
      ∙ ap (sum_mod p (g t)) (sym (total-cons p g u us)))
      (λ equal.
      total-put p g additive t.at (sum_mod p t.coefficient u.coefficient) us
      ∙ sym (sum_mod-first p _ _)
      ∙ ap (λ n. sum_mod p n (total p g us)) (additive.at_sum t.at t.coefficient u.coefficient)
      ∙ sum_mod-assoc p _ _ _
      ∙ ap (λ k. sum_mod p (g t) (sum_mod p (g (record { at = k; coefficient = u.coefficient })) (total p g us)))
      (order.apart t.at u.at equal)
      ∙ ap (sum_mod p (g t)) (sym (total-cons p g u us)))
      (λ greater. total-put_reduced p g additive t.at t.coefficient (u ∷ us))

  -- a list of terms and the canonical list that it means have one total
  pub total-normal : (ts : List (Term K)) → total p g (normal cmp p ts) ≡ total p g ts
  unfolding normal
  total-normal [] = refl
  total-normal (t ∷ ts) =
      total-insert t (normal cmp p ts) ∙ ap (sum_mod p (g t)) (total-normal ts) ∙ sym (total-cons p g t ts)

  pub total-add : (us vs : List (Term K)) → total p g (add cmp p us vs) ≡ sum_mod p (total p g us) (total p g vs)
  unfolding add
  total-add us vs = total-normal (us ++ vs) ∙ total-append p g us vs
