-- Lists of terms that mean one canonical list: each number that is additive in the coefficient has one total on both.
use Rattle.std.proofs.Common.{◌≡◌, ℕ, ◌+◌, ◌-◌, ◌%◌, ◌<◌, List, [], ◌∷◌, ◌++◌, map, refl, sym, ◌∙◌, ap, arith}
use Rattle.std.proofs.Math.Nat.{add-mod-mod, mod_self}
use Rattle.std.specs.declared.cmp.Ordering.{Ordering}
use Rattle.sf_algebra.specs.Monomials.{Monomial}
use Rattle.sf_algebra.specs.Multiples.{term_product, combination}
use Rattle.sf_algebra.specs.Orders.{IsLinearOrder}
use Rattle.sf_algebra.specs.Residues.{sum_mod, product_mod, negative_mod}
use Rattle.sf_algebra.specs.Sums.{normal, total}
use Rattle.sf_algebra.specs.Terms.{Term}
use Rattle.sf_algebra.proofs.Arithmetic.Residues.{product_mod-comm, product_mod-one, product_mod-sum, product_mod-zero, sum_mod-comm, sum_mod-first, sum_mod-reduced, sum_mod-zero_first}
use Rattle.sf_algebra.proofs.Multiplying.CombinationLaws.{combination-same}
use Rattle.sf_algebra.proofs.Multiplying.Combinations.{IsCanonical-combination, share-additive, total-combination}
use Rattle.sf_algebra.proofs.Multiplying.Keys.{Keys}
use Rattle.sf_algebra.proofs.Multiplying.MultipleLaws.{additive-term_product_one, one_term}
use Rattle.sf_algebra.proofs.Multiplying.Multiples.{term_product-additive}
use Rattle.sf_algebra.proofs.Terms.Coefficients.{same_from_total}
use Rattle.sf_algebra.proofs.Terms.DoubleTotals.{total-map, total-same, total-sum, total-zero}
use Rattle.sf_algebra.proofs.Terms.Negatives.{negative_one_term}
use Rattle.sf_algebra.proofs.Terms.Normal.{IsCanonical-normal}
use Rattle.sf_algebra.proofs.Terms.Totals.{IsAdditive, total-append, total-cons, total-nil, total-normal, total-reduced}

-- 1 and -1
pub sum_mod-one_negative : (p : ℕ) → 0 < p → sum_mod p 1 (negative_mod p 1) ≡ 0
unfolding sum_mod negative_mod
sum_mod-one_negative p positive = let whole : 1 + (p - 1) ≡ p = omega arith in rw (add-mod-mod, whole) (mod_self p)

-- a number and its product with -1
pub sum_mod-negative_one : (p a : ℕ) → 0 < p → sum_mod p a (product_mod p (negative_mod p 1) a) ≡ 0
sum_mod-negative_one p a positive =
    sym (sum_mod-first p a _)
    ∙ (λ i. sum_mod p (sym (product_mod-one p a) i) (product_mod-comm p (negative_mod p 1) a i))
    ∙ sym (product_mod-sum p a 1 (negative_mod p 1))
    ∙ ap (product_mod p a) (sum_mod-one_negative p positive)
    ∙ product_mod-zero p a

pub record SameTotals {K : Type 0} (p : ℕ) (us vs : List (Term K)) : Type 0 where
  pub totals : (g : Term K → ℕ) → IsAdditive p g → total p g us ≡ total p g vs

module _ {K : Type 0} (p : ℕ) where
  pub SameTotals-refl : (us : List (Term K)) → SameTotals p us us
  SameTotals-refl us = record { totals = λ g additive. refl }

  pub SameTotals-equal : (us vs : List (Term K)) → us ≡ vs → SameTotals p us vs
  SameTotals-equal us vs e = record { totals = λ g additive. ap (total p g) e }

  pub SameTotals-sym : {us vs : List (Term K)} → SameTotals p us vs → SameTotals p vs us
  SameTotals-sym h = record { totals = λ g additive. sym (h.totals g additive) }

  pub SameTotals-trans : {us vs ws : List (Term K)} → SameTotals p us vs → SameTotals p vs ws → SameTotals p us ws
  SameTotals-trans h k = record { totals = λ g additive. h.totals g additive ∙ k.totals g additive }

  pub SameTotals-append : {us vs ws xs : List (Term K)} → SameTotals p us vs → SameTotals p ws xs
      → SameTotals p (us ++ ws) (vs ++ xs)
  SameTotals-append {us} {vs} {ws} {xs} h k = record {
    totals = λ g additive. total-append p g us ws ∙ (λ i. sum_mod p (h.totals g additive i) (k.totals g additive i)) ∙ sym (total-append p g vs xs);
  }

  -- lists may be exchanged
  pub SameTotals-swap : (us vs : List (Term K)) → SameTotals p (us ++ vs) (vs ++ us)
  SameTotals-swap us vs = record { totals = λ g additive. total-append p g us vs ∙ sum_mod-comm p _ _ ∙ sym (total-append p g vs us) }

  -- a term with the coefficient 0 may be left out
  pub SameTotals-zero : (k : K) (us : List (Term K)) → SameTotals p (record { at = k; coefficient = 0 } ∷ us) us
  SameTotals-zero k us = record {
    totals = λ g additive.
        total-cons p g _ us
        ∙ sym (sum_mod-first p _ _)
        ∙ ap (λ n. sum_mod p n (total p g us)) (additive.at_zero k)
        ∙ sum_mod-zero_first p _
        ∙ total-reduced p g us;
  }

  -- multiples of both by a term of a polynomial
  pub SameTotals-products : (act : Monomial → K → K) (s : Term Monomial) {us vs : List (Term K)} → SameTotals p us vs
      → SameTotals p (map (term_product act p s) us) (map (term_product act p s) vs)
  SameTotals-products act s {us} {vs} h = record {
    totals = λ g additive.
        total-map p g (term_product act p s) us
        ∙ h.totals (λ t. g (term_product act p s t)) (term_product-additive act p g additive s)
        ∙ sym (total-map p g (term_product act p s) vs);
  }

module _ {K : Type 0} (cmp : K → K → Ordering) (order : IsLinearOrder cmp) (p : ℕ) where
  -- a list means its canonical list
  pub SameTotals-normal : (us : List (Term K)) → SameTotals p (normal cmp p us) us
  SameTotals-normal us = record { totals = λ g additive. total-normal cmp order p g additive us }

  pub normal-SameTotals : 0 < p → {us vs : List (Term K)} → SameTotals p us vs → normal cmp p us ≡ normal cmp p vs
  normal-SameTotals positive {us} {vs} h =
      same_from_total cmp order p positive _ _ (IsCanonical-normal cmp order p positive us)
      (IsCanonical-normal cmp order p positive vs)
      (λ g additive. total-normal cmp order p g additive us ∙ h.totals g additive ∙ sym (total-normal cmp order p g additive vs))

  pub SameTotals-from_normal : (us vs : List (Term K)) → normal cmp p us ≡ normal cmp p vs → SameTotals p us vs
  SameTotals-from_normal us vs e = record {
    totals = λ g additive. sym (total-normal cmp order p g additive us) ∙ ap (total p g) e ∙ total-normal cmp order p g additive vs;
  }

-- combinations with coefficients that mean one canonical list are equal
pub combination-SameTotals : {C K : Type 0} (keys : Keys K) (p : ℕ) → 0 < p
    → (monomial : C → Monomial) (row : C → List (Term K)) {c d : List (Term C)} → SameTotals p c d
    → combination keys.cmp keys.act p monomial row c ≡ combination keys.cmp keys.act p monomial row d
combination-SameTotals keys p positive monomial row {c} {d} h =
    combination-same keys p positive monomial row c _ (IsCanonical-combination keys p monomial row positive d)
    (λ g additive. h.totals _ (share-additive keys p monomial row g additive) ∙ sym (total-combination keys p monomial row g additive d))

-- the products with the term 1 mean what the list does
pub SameTotals-products_one : {K : Type 0} (keys : Keys K) (p : ℕ) (us : List (Term K))
    → SameTotals p (map (term_product keys.act p one_term) us) us
SameTotals-products_one keys p us = record {
  totals = λ g additive. total-map p g (term_product keys.act p one_term) us ∙ total-same p _ _ us (additive-term_product_one keys p g additive);
}

-- the negatives of the terms of a list take it away
pub SameTotals-negative : {K : Type 0} (keys : Keys K) (p : ℕ) → 0 < p → (us : List (Term K))
    → SameTotals p (us ++ map (term_product keys.act p (negative_one_term p)) us) []
SameTotals-negative {K} keys p positive us = record {
  totals = λ g additive.
      total-append p g us (map (term_product keys.act p (negative_one_term p)) us)
      ∙ ap (sum_mod p (total p g us)) (total-map p g (term_product keys.act p (negative_one_term p)) us)
      ∙ sym (total-sum p (λ (u : Term K). sum_mod p (g u) (g (term_product keys.act p (negative_one_term p) u))) g _ us (λ u. sum_mod-reduced p _ _))
      ∙ total-zero p _ us (λ u. sum_mod-reduced p _ _ ∙ cancels g additive u)
      ∙ sym (total-nil p g);
}
  where
    cancels : (g : Term K → ℕ) → IsAdditive p g → (u : Term K)
        → sum_mod p (g u) (g (term_product keys.act p (negative_one_term p) u)) ≡ 0
    cancels g additive u =
        ap (λ k. sum_mod p (g u) (g (record { at = k; coefficient = product_mod p (negative_mod p 1) u.coefficient })))
        (keys.act_one u.at)
        ∙ sym (additive.at_sum u.at u.coefficient (product_mod p (negative_mod p 1) u.coefficient))
        ∙ ap (λ n. g (record { at = u.at; coefficient = n }) % p) (sum_mod-negative_one p u.coefficient positive)
        ∙ additive.at_zero u.at
