-- Multiples of combinations, and combinations with combinations as coefficients. A product of a coefficient with a
-- monomial stands for the same row.
use Rattle.std.proofs.Common.{◌≡◌, ℕ, ◌%◌, ◌<◌, List, sym, ◌∙◌, ap}
use Rattle.sf_algebra.specs.Monomials.{Monomial, product}
use Rattle.sf_algebra.specs.Multiples.{term_product, multiple, negative, combination}
use Rattle.sf_algebra.specs.Residues.{product_mod}
use Rattle.sf_algebra.specs.Sums.{total}
use Rattle.sf_algebra.specs.Terms.{Term, IsCanonical}
use Rattle.sf_algebra.proofs.Multiplying.CombinationLaws.{combination-same}
use Rattle.sf_algebra.proofs.Multiplying.Combinations.{IsCanonical-combination, factor, share, share-additive, total-combination}
use Rattle.sf_algebra.proofs.Multiplying.Keys.{Keys}
use Rattle.sf_algebra.proofs.Multiplying.MultipleLaws.{term_product-assoc, term_product-exchange}
use Rattle.sf_algebra.proofs.Multiplying.Multiples.{IsCanonical-multiple, term_product-additive, total-multiple}
use Rattle.sf_algebra.proofs.Terms.DoubleTotals.{total-same}
use Rattle.sf_algebra.proofs.Terms.Negatives.{multiple-negative_one, negative_one_term}

-- a product of that at which a coefficient stands with a monomial has the product of its monomial, and the same row
pub record IsOfRows {C K : Type 0} (places : Keys C) (monomial : C → Monomial) (row : C → List (Term K)) : Type 0 where
  pub monomial_act : (a : Monomial) (k : C) → monomial (places.act a k) ≡ product a (monomial k)
  pub row_act : (a : Monomial) (k : C) → row (places.act a k) ≡ row k

module _ {C K : Type 0} (places : Keys C) (keys : Keys K) (p : ℕ) (monomial : C → Monomial) (row : C → List (Term K))
    (of_rows : IsOfRows places monomial row) where
  -- the share of a product of a coefficient is the product of the coefficient's share
  pub share-term_product : (g : Term K → ℕ) (s : Term Monomial) (t : Term C)
      → share keys.act p monomial row g (term_product places.act p s t)
      ≡ share keys.act p monomial row (λ u. g (term_product keys.act p s u)) t
  share-term_product g s t =
      (λ i.
      total p (λ u. g (term_product keys.act p (record { at = of_rows.monomial_act s.at t.at i; coefficient = product_mod p s.coefficient t.coefficient }) u))
      (of_rows.row_act s.at t.at i))
      ∙ total-same p _ _ (row t.at) (λ u. ap (λ v. g v % p) (term_product-assoc keys p s (factor monomial t) u))

module _ {C K : Type 0} (places : Keys C) (keys : Keys K) (p : ℕ) (positive : 0 < p) (monomial : C → Monomial)
    (row : C → List (Term K)) (of_rows : IsOfRows places monomial row) where
  -- a multiple of a combination is the combination with the multiple of the coefficients
  pub combination-multiple : (s : Term Monomial) (c : List (Term C))
      → combination keys.cmp keys.act p monomial row (multiple places.cmp places.act p s c)
      ≡ multiple keys.cmp keys.act p s (combination keys.cmp keys.act p monomial row c)
  combination-multiple s c =
      combination-same keys p positive monomial row (multiple places.cmp places.act p s c) _
      (IsCanonical-multiple keys p positive s _)
      (λ g additive.
      total-multiple places p _ (share-additive keys p monomial row g additive) s c
      ∙ total-same p _ _ c (λ t. ap (λ n. n % p) (share-term_product places keys p monomial row of_rows g s t))
      ∙ sym (total-combination keys p monomial row _ (term_product-additive keys.act p g additive s) c)
      ∙ sym (total-multiple keys p g additive s _))

  -- combinations are associative: the coefficients of the rows may be combined first
  pub combination_combination : {B : Type 0} (factors : B → Monomial) (coefficients : B → List (Term C))
      (b : List (Term B))
      → combination keys.cmp keys.act p monomial row (combination places.cmp places.act p factors coefficients b)
      ≡ combination keys.cmp keys.act p factors (λ k. combination keys.cmp keys.act p monomial row (coefficients k)) b
  combination_combination factors coefficients b =
      combination-same keys p positive monomial row (combination places.cmp places.act p factors coefficients b) _
      (IsCanonical-combination keys p factors _ positive b)
      (λ g additive.
      total-combination places p factors coefficients _ (share-additive keys p monomial row g additive) b
      ∙ total-same p _ _ b (λ t. ap (λ n. n % p)
      (total-same p _ _ (coefficients t.at) (λ d. ap (λ n. n % p) (share-term_product places keys p monomial row of_rows g (factor factors t) d))
      ∙ sym (total-combination keys p monomial row _ (term_product-additive keys.act p g additive (factor factors t)) (coefficients t.at))))
      ∙ sym (total-combination keys p factors _ g additive b))

  -- the combination with the negatives of the coefficients
  pub combination-negative : (c : List (Term C)) → IsCanonical places.cmp p c
      → combination keys.cmp keys.act p monomial row (negative p c)
      ≡ negative p (combination keys.cmp keys.act p monomial row c)
  combination-negative c h =
      ap (combination keys.cmp keys.act p monomial row) (sym (multiple-negative_one places p positive c h))
      ∙ combination-multiple (negative_one_term p) c
      ∙ multiple-negative_one keys p positive _ (IsCanonical-combination keys p monomial row positive c)

-- a combination of multiples is the multiple of the combination
pub combination-multiple_rows : {C K : Type 0} (keys : Keys K) (p : ℕ) (positive : 0 < p) (monomial : C → Monomial)
    (row : C → List (Term K)) (s : Term Monomial) (c : List (Term C))
    → combination keys.cmp keys.act p monomial (λ k. multiple keys.cmp keys.act p s (row k)) c
    ≡ multiple keys.cmp keys.act p s (combination keys.cmp keys.act p monomial row c)
combination-multiple_rows keys p positive monomial row s c =
    combination-same keys p positive monomial (λ k. multiple keys.cmp keys.act p s (row k)) c _
    (IsCanonical-multiple keys p positive s _)
    (λ g additive.
    total-same p _ _ c (λ t. ap (λ n. n % p)
    (total-multiple keys p _ (term_product-additive keys.act p g additive (factor monomial t)) s (row t.at)
    ∙ total-same p _ _ (row t.at) (λ u. ap (λ v. g v % p) (term_product-exchange keys p (factor monomial t) s u))))
    ∙ sym (total-combination keys p monomial row _ (term_product-additive keys.act p g additive s) c)
    ∙ sym (total-multiple keys p g additive s _))

-- a combination of negatives
pub combination-negative_rows : {C K : Type 0} (keys : Keys K) (p : ℕ) (positive : 0 < p) (monomial : C → Monomial)
    (row : C → List (Term K)) (c : List (Term C))
    → ((k : C) → IsCanonical keys.cmp p (row k))
    → combination keys.cmp keys.act p monomial (λ k. negative p (row k)) c
    ≡ negative p (combination keys.cmp keys.act p monomial row c)
combination-negative_rows keys p positive monomial row c canonical =
    (λ i. combination keys.cmp keys.act p monomial (λ k. sym (multiple-negative_one keys p positive (row k) (canonical k)) i) c)
    ∙ combination-multiple_rows keys p positive monomial row (negative_one_term p) c
    ∙ multiple-negative_one keys p positive _ (IsCanonical-combination keys p monomial row positive c)
