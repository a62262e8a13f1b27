-- Multiples by a term of a polynomial, by the totals of their terms.
use Rattle.std.proofs.Common.{◌≡◌, ℕ, ◌%◌, ◌<◌, List, map, ◌∙◌, ap}
use Rattle.sf_algebra.specs.Monomials.{Monomial}
use Rattle.sf_algebra.specs.Multiples.{term_product, multiple}
use Rattle.sf_algebra.specs.Residues.{sum_mod}
use Rattle.sf_algebra.specs.Sums.{total, part_at, coefficient_at}
use Rattle.sf_algebra.specs.Terms.{Term, IsCanonical}
use Rattle.sf_algebra.proofs.Arithmetic.Residues.{product_mod-comm, product_mod-sum, product_mod-zero}
use Rattle.sf_algebra.proofs.Multiplying.Keys.{Keys}
use Rattle.sf_algebra.proofs.Terms.Coefficients.{part_at-additive}
use Rattle.sf_algebra.proofs.Terms.DoubleTotals.{total-map}
use Rattle.sf_algebra.proofs.Terms.Normal.{IsCanonical-normal}
use Rattle.sf_algebra.proofs.Terms.Totals.{IsAdditive, total-normal}

module _ {K : Type 0} (act : Monomial → K → K) (p : ℕ) (g : Term K → ℕ) (additive : IsAdditive p g) where
  -- a product is additive in the second factor's coefficient
  pub term_product-additive : (s : Term Monomial) → IsAdditive p (λ t. g (term_product act p s t))
  term_product-additive s = record {
    at_zero = λ k. ap (λ n. g (record { at = act s.at k; coefficient = n }) % p) (product_mod-zero p s.coefficient) ∙ additive.at_zero (act s.at k);
    at_sum = λ k a b. ap (λ n. g (record { at = act s.at k; coefficient = n }) % p) (product_mod-sum p s.coefficient a b) ∙ additive.at_sum (act s.at k) _ _;
  }

  -- and in the first factor's, which stands at what has a monomial
  pub term_product-additive_first : {C : Type 0} (monomial : C → Monomial) (t : Term K)
      → IsAdditive p (λ s. g (term_product act p (record { at = monomial s.at; coefficient = s.coefficient }) t))
  term_product-additive_first monomial t = record {
    at_zero = λ k. ap (λ n. g (record { at = act (monomial k) t.at; coefficient = n }) % p) (product_mod-comm p 0 t.coefficient ∙ product_mod-zero p t.coefficient) ∙ additive.at_zero (act (monomial k) t.at);
    at_sum = λ k a b.
        ap (λ n. g (record { at = act (monomial k) t.at; coefficient = n }) % p)
        (product_mod-comm p (sum_mod p a b) t.coefficient ∙ product_mod-sum p t.coefficient a b ∙ (λ i. sum_mod p (product_mod-comm p t.coefficient a i) (product_mod-comm p t.coefficient b i)))
        ∙ additive.at_sum (act (monomial k) t.at) _ _;
  }

  pub total-map_term_product : (s : Term Monomial) (ts : List (Term K))
      → total p g (map (term_product act p s) ts) ≡ total p (λ t. g (term_product act p s t)) ts
  total-map_term_product s ts = total-map p g (term_product act p s) ts

module _ {K : Type 0} (keys : Keys K) (p : ℕ) where
  pub IsCanonical-multiple : 0 < p → (s : Term Monomial) (ts : List (Term K))
      → IsCanonical keys.cmp p (multiple keys.cmp keys.act p s ts)
  unfolding multiple
  IsCanonical-multiple positive s ts =
      IsCanonical-normal keys.cmp keys.order p positive (map (term_product keys.act p s) ts)

  pub total-multiple : (g : Term K → ℕ) → IsAdditive p g → (s : Term Monomial) (ts : List (Term K))
      → total p g (multiple keys.cmp keys.act p s ts) ≡ total p (λ t. g (term_product keys.act p s t)) ts
  unfolding multiple
  total-multiple g additive s ts =
      total-normal keys.cmp keys.order p g additive (map (term_product keys.act p s) ts)
      ∙ total-map p g (term_product keys.act p s) ts

  pub coefficient_at-multiple : (k : K) (s : Term Monomial) (us : List (Term K))
      → coefficient_at keys.cmp p k (multiple keys.cmp keys.act p s us)
      ≡ total p (λ u. part_at keys.cmp k (term_product keys.act p s u)) us
  coefficient_at-multiple k s us = total-multiple (part_at keys.cmp k) (part_at-additive keys.cmp p k) s us
