-- Combinations, by the totals of their terms.
use Rattle.std.proofs.Common.{◌≡◌, ℕ, ◌%◌, ◌<◌, List, map, ◌∙◌, ap}
use Rattle.sf_algebra.specs.Monomials.{Monomial}
use Rattle.sf_algebra.specs.Multiples.{term_product, combination_terms, combination}
use Rattle.sf_algebra.specs.Sums.{total, part_at, coefficient_at}
use Rattle.sf_algebra.specs.Terms.{Term, IsCanonical}
use Rattle.sf_algebra.proofs.Multiplying.Keys.{Keys}
use Rattle.sf_algebra.proofs.Multiplying.Multiples.{term_product-additive_first}
use Rattle.sf_algebra.proofs.Terms.Coefficients.{part_at-additive}
use Rattle.sf_algebra.proofs.Terms.DoubleTotals.{total-additive, total-flat_map, total-map, total-same}
use Rattle.sf_algebra.proofs.Terms.Normal.{IsCanonical-normal}
use Rattle.sf_algebra.proofs.Terms.Totals.{IsAdditive, total-normal}

-- the term of a polynomial that a coefficient of a combination stands for
abbrev pub factor : {C : Type 0} → (C → Monomial) → Term C → Term Monomial
factor monomial t = record { at = monomial t.at; coefficient = t.coefficient }

-- the total over the terms that a coefficient of a combination gives
abbrev pub share : {C K : Type 0} → (Monomial → K → K) → ℕ → (C → Monomial) → (C → List (Term K)) → (Term K → ℕ)
    → Term C → ℕ
share act p monomial row g t = total p (λ u. g (term_product act p (factor monomial t) u)) (row t.at)

module _ {C K : Type 0} (keys : Keys K) (p : ℕ) (monomial : C → Monomial) (row : C → List (Term K)) where
  pub IsCanonical-combination : 0 < p → (c : List (Term C))
      → IsCanonical keys.cmp p (combination keys.cmp keys.act p monomial row c)
  unfolding combination
  IsCanonical-combination positive c =
      IsCanonical-normal keys.cmp keys.order p positive (combination_terms keys.act p monomial row c)

  module _ (g : Term K → ℕ) (additive : IsAdditive p g) where
    pub share-additive : IsAdditive p (share keys.act p monomial row g)
    share-additive =
        total-additive p (λ t u. g (term_product keys.act p (factor monomial t) u)) row
        (term_product-additive_first keys.act p g additive monomial)

    pub total-combination : (c : List (Term C))
        → total p g (combination keys.cmp keys.act p monomial row c) ≡ total p (share keys.act p monomial row g) c
    unfolding combination combination_terms
    total-combination c =
        total-normal keys.cmp keys.order p g additive (combination_terms keys.act p monomial row c)
        ∙ total-flat_map p g (λ t. map (term_product keys.act p (factor monomial t)) (row t.at)) c
        ∙ total-same p _ _ c
        (λ t. ap (λ n. n % p) (total-map p g (term_product keys.act p (factor monomial t)) (row t.at)))

  -- the coefficient at k, by the shares of the coefficients there
  pub coefficient_at-combination : (k : K) (c : List (Term C))
      → coefficient_at keys.cmp p k (combination keys.cmp keys.act p monomial row c)
      ≡ total p (share keys.act p monomial row (part_at keys.cmp k)) c
  coefficient_at-combination k c = total-combination (part_at keys.cmp k) (part_at-additive keys.cmp p k) c
