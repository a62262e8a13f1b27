-- Sums modulo p: of numbers that agree, of sums, over mapped lists, and sums of sums.
use Rattle.std.proofs.Common.{◌≡◌, ℕ, ◌%◌, List, [], ◌∷◌, map, sym, ◌∙◌, ap}
use Rattle.std.proofs.Math.Nat.{zero-mod}
use Rattle.std.specs.List.{AllByRecursion, flat_map}
use Rattle.sf_algebra.specs.Residues.{sum_mod}
use Rattle.sf_algebra.specs.Sums.{total}
use Rattle.sf_algebra.specs.Terms.{Term}
use Rattle.sf_algebra.proofs.Arithmetic.Residues.{sum_mod-exchange, sum_mod-first, sum_mod-zero}
use Rattle.sf_algebra.proofs.Terms.Totals.{IsAdditive, total-nil, total-cons, total-append, total-reduced}

module _ {K : Type 0} (p : ℕ) where
  -- numbers that agree modulo p at each term of the list
  pub total-each : (f g : Term K → ℕ) (ts : List (Term K)) → AllByRecursion (λ t. f t % p ≡ g t % p) ts
      → total p f ts ≡ total p g ts
  total-each f g [] same = total-nil p f ∙ sym (total-nil p g)
  total-each f g (t ∷ ts) same =
      total-cons p f t ts
      ∙ sym (sum_mod-first p (f t) _)
      ∙ (λ i. sum_mod p (same.0 i) (total-each f g ts same.1 i))
      ∙ sum_mod-first p (g t) _
      ∙ sym (total-cons p g t ts)

  -- numbers that agree modulo p
  pub total-same : (f g : Term K → ℕ) (ts : List (Term K)) → ((t : Term K) → f t % p ≡ g t % p)
      → total p f ts ≡ total p g ts
  total-same f g [] same = total-nil p f ∙ sym (total-nil p g)
  total-same f g (t ∷ ts) same =
      total-cons p f t ts
      ∙ sym (sum_mod-first p (f t) _)
      ∙ (λ i. sum_mod p (same t i) (total-same f g ts same i))
      ∙ sum_mod-first p (g t) _
      ∙ sym (total-cons p g t ts)

  pub total-zero : (g : Term K → ℕ) (ts : List (Term K)) → ((t : Term K) → g t % p ≡ 0) → total p g ts ≡ 0
  total-zero g [] none = total-nil p g
  total-zero g (t ∷ ts) none =
      total-cons p g t ts
      ∙ sym (sum_mod-first p (g t) _)
      ∙ (λ i. sum_mod p (none t i) (total-zero g ts none i))
      ∙ sum_mod-zero p 0
      ∙ zero-mod p

  -- numbers each of which is a sum
  pub total-sum : (f g h : Term K → ℕ) (ts : List (Term K)) → ((t : Term K) → f t % p ≡ sum_mod p (g t) (h t))
      → total p f ts ≡ sum_mod p (total p g ts) (total p h ts)
  total-sum f g h [] sums =
      total-nil p f ∙ sym (sum_mod-zero p 0 ∙ zero-mod p)
      ∙ (λ i. sum_mod p (sym (total-nil p g) i) (sym (total-nil p h) i))
  total-sum f g h (t ∷ ts) sums =
      total-cons p f t ts
      ∙ sym (sum_mod-first p (f t) _)
      ∙ (λ i. sum_mod p (sums t i) (total-sum f g h ts sums i))
      ∙ sum_mod-exchange p (g t) (h t) (total p g ts) (total p h ts)
      ∙ (λ i. sum_mod p (sym (total-cons p g t ts) i) (sym (total-cons p h t ts) i))

  pub total-map : {L : Type 0} (g : Term K → ℕ) (f : Term L → Term K) (ts : List (Term L))
      → total p g (map f ts) ≡ total p (λ t. g (f t)) ts
  total-map g f [] = total-nil p g ∙ sym (total-nil p (λ t. g (f t)))
  total-map g f (t ∷ ts) =
      total-cons p g (f t) (map f ts)
      ∙ ap (sum_mod p (g (f t))) (total-map g f ts)
      ∙ sym (total-cons p (λ t. g (f t)) t ts)

  pub total-flat_map : {L : Type 0} (g : Term K → ℕ) (f : Term L → List (Term K)) (ts : List (Term L))
      → total p g (flat_map f ts) ≡ total p (λ t. total p g (f t)) ts
  total-flat_map g f [] = total-nil p g ∙ sym (total-nil p (λ t. total p g (f t)))
  total-flat_map g f (t ∷ ts) =
      total-append p g (f t) (flat_map f ts)
      ∙ ap (sum_mod p (total p g (f t))) (total-flat_map g f ts)
      ∙ sym (total-cons p (λ t. total p g (f t)) t ts)

-- the sums of a double sum may be exchanged
pub total_exchange : {K L : Type 0} (p : ℕ) (h : Term K → Term L → ℕ) (ts : List (Term K)) (us : List (Term L))
    → total p (λ t. total p (h t) us) ts ≡ total p (λ u. total p (λ t. h t u) ts) us
total_exchange p h [] us =
    total-nil p (λ t. total p (h t) us)
    ∙ sym (total-zero p (λ u. total p (λ t. h t u) []) us (λ u. ap (λ n. n % p) (total-nil p (λ t. h t u)) ∙ zero-mod p))
total_exchange p h (t ∷ ts) us =
    total-cons p (λ t. total p (h t) us) t ts
    ∙ ap (sum_mod p (total p (h t) us)) (total_exchange p h ts us)
    ∙ sym (total-sum p (λ u. total p (λ t. h t u) (t ∷ ts)) (h t) (λ u. total p (λ t. h t u) ts) us (λ u. total-reduced p (λ t. h t u) (t ∷ ts) ∙ total-cons p (λ t. h t u) t ts))

-- a sum over a list of numbers each of which is additive in the coefficient is so too
pub total-additive : {K L : Type 0} (p : ℕ) (h : Term K → Term L → ℕ) (us : K → List (Term L))
    → ((u : Term L) → IsAdditive p (λ t. h t u)) → IsAdditive p (λ t. total p (h t) (us t.at))
total-additive p h us additive = record {
  at_zero = λ k. total-reduced p _ (us k) ∙ total-zero p _ (us k) (λ u. (additive u).at_zero k);
  at_sum = λ k a b. total-reduced p _ (us k) ∙ total-sum p _ _ _ (us k) (λ u. (additive u).at_sum k a b);
}
