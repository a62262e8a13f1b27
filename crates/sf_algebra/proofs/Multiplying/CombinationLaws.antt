-- Laws of combinations: additive in the coefficients and in the rows, and associative.
use Rattle.std.proofs.Common.{◌≡◌, ℕ, ◌%◌, ◌<◌, List, [], ◌∷◌, ◌++◌, sym, ◌∙◌, ap}
use Rattle.std.specs.List.{AllByRecursion}
use Rattle.sf_algebra.specs.Monomials.{Monomial}
use Rattle.sf_algebra.specs.Multiples.{term_product, multiple, combination}
use Rattle.sf_algebra.specs.Residues.{sum_mod}
use Rattle.sf_algebra.specs.Sums.{add, total}
use Rattle.sf_algebra.specs.Terms.{Term, IsCanonical}
use Rattle.sf_algebra.proofs.Arithmetic.Residues.{sum_mod-zero}
use Rattle.sf_algebra.proofs.Basics.Lists.{AllByRecursion-weaken}
use Rattle.sf_algebra.proofs.Multiplying.Combinations.{IsCanonical-combination, factor, share, share-additive, total-combination}
use Rattle.sf_algebra.proofs.Multiplying.Keys.{Keys}
use Rattle.sf_algebra.proofs.Multiplying.Multiples.{IsCanonical-multiple, term_product-additive, total-multiple}
use Rattle.sf_algebra.proofs.Terms.Coefficients.{same_from_total}
use Rattle.sf_algebra.proofs.Terms.DoubleTotals.{total-each, total-sum}
use Rattle.sf_algebra.proofs.Terms.Normal.{IsCanonical-add}
use Rattle.sf_algebra.proofs.Terms.Totals.{IsAdditive, total-add, total-append, total-cons, total-nil, total-reduced}

module _ {C K : Type 0} (keys : Keys K) (p : ℕ) (positive : 0 < p) (monomial : C → Monomial) where
  -- a combination is equal to a list where all totals are
  pub combination-same : (row : C → List (Term K)) (c : List (Term C)) (vs : List (Term K)) → IsCanonical keys.cmp p vs
      → ((g : Term K → ℕ) → IsAdditive p g → total p (share keys.act p monomial row g) c ≡ total p g vs)
      → combination keys.cmp keys.act p monomial row c ≡ vs
  combination-same row c vs canonical same =
      same_from_total keys.cmp keys.order p positive _ _
      (IsCanonical-combination keys p monomial row positive c) canonical
      (λ g additive. total-combination keys p monomial row g additive c ∙ same g additive)

  -- only the rows count that have a coefficient
  pub combination-rows : (row other : C → List (Term K)) (c : List (Term C))
      → AllByRecursion (λ t. row t.at ≡ other t.at) c
      → combination keys.cmp keys.act p monomial row c ≡ combination keys.cmp keys.act p monomial other c
  combination-rows row other c same =
      combination-same row c _ (IsCanonical-combination keys p monomial other positive c)
      (λ g additive.
      total-each p (share keys.act p monomial row g) (share keys.act p monomial other g) c
      (AllByRecursion-weaken _ _ (λ t e. ap (λ us. total p (λ u. g (term_product keys.act p (factor monomial t) u)) us % p) e) c same)
      ∙ sym (total-combination keys p monomial other g additive c))

  pub combination-nil : (row : C → List (Term K)) → combination keys.cmp keys.act p monomial row [] ≡ []
  combination-nil row =
      combination-same row [] [] (record { descending = tt; residues = tt })
      (λ g additive. total-nil p (share keys.act p monomial row g) ∙ sym (total-nil p g))

  -- the combination with one coefficient
  pub combination-one : (row : C → List (Term K)) (t : Term C)
      → combination keys.cmp keys.act p monomial row (t ∷ [])
      ≡ multiple keys.cmp keys.act p (factor monomial t) (row t.at)
  combination-one row t =
      combination-same row (t ∷ []) _ (IsCanonical-multiple keys p positive (factor monomial t) (row t.at))
      (λ g additive.
      total-cons p (share keys.act p monomial row g) t []
      ∙ ap (sum_mod p (share keys.act p monomial row g t)) (total-nil p (share keys.act p monomial row g))
      ∙ sum_mod-zero p _
      ∙ total-reduced p _ (row t.at)
      ∙ sym (total-multiple keys p g additive (factor monomial t) (row t.at)))

  -- the halves of the coefficients give the halves of the combination
  pub combination-append : (row : C → List (Term K)) (c d : List (Term C))
      → combination keys.cmp keys.act p monomial row (c ++ d)
      ≡ add keys.cmp p (combination keys.cmp keys.act p monomial row c) (combination keys.cmp keys.act p monomial row d)
  combination-append row c d =
      combination-same row (c ++ d) _ (IsCanonical-add keys.cmp keys.order p positive _ _)
      (λ g additive.
      total-append p (share keys.act p monomial row g) c d
      ∙ (λ i. sum_mod p (sym (total-combination keys p monomial row g additive c) i) (sym (total-combination keys p monomial row g additive d) i))
      ∙ sym (total-add keys.cmp keys.order p g additive _ _))

  -- one coefficient more, in front
  pub combination-cons : (row : C → List (Term K)) (t : Term C) (c : List (Term C))
      → combination keys.cmp keys.act p monomial row (t ∷ c)
      ≡ add keys.cmp p (multiple keys.cmp keys.act p (factor monomial t) (row t.at))
      (combination keys.cmp keys.act p monomial row c)
  combination-cons row t c =
      combination-append row (t ∷ []) c
      ∙ ap (λ us. add keys.cmp p us (combination keys.cmp keys.act p monomial row c)) (combination-one row t)

  -- one coefficient more, behind, as a loop adds it
  pub combination-push : (row : C → List (Term K)) (c : List (Term C)) (t : Term C)
      → combination keys.cmp keys.act p monomial row (c ++ t ∷ [])
      ≡ add keys.cmp p (combination keys.cmp keys.act p monomial row c)
      (multiple keys.cmp keys.act p (factor monomial t) (row t.at))
  combination-push row c t =
      combination-append row c (t ∷ [])
      ∙ ap (add keys.cmp p (combination keys.cmp keys.act p monomial row c)) (combination-one row t)

  -- a combination of sums
  pub combination-add_rows : (row other : C → List (Term K)) (c : List (Term C))
      → combination keys.cmp keys.act p monomial (λ k. add keys.cmp p (row k) (other k)) c
      ≡ add keys.cmp p (combination keys.cmp keys.act p monomial row c)
      (combination keys.cmp keys.act p monomial other c)
  combination-add_rows row other c =
      combination-same (λ k. add keys.cmp p (row k) (other k)) c _ (IsCanonical-add keys.cmp keys.order p positive _ _)
      (λ g additive.
      total-sum p _ (share keys.act p monomial row g) (share keys.act p monomial other g) c
      (λ t. total-reduced p _ (add keys.cmp p (row t.at) (other t.at)) ∙ total-add keys.cmp keys.order p _ (term_product-additive keys.act p g additive (factor monomial t)) (row t.at) (other t.at))
      ∙ (λ i. sum_mod p (sym (total-combination keys p monomial row g additive c) i) (sym (total-combination keys p monomial other g additive c) i))
      ∙ sym (total-add keys.cmp keys.order p g additive _ _))

-- a combination with a sum of coefficients
pub combination-add : {C K : Type 0} (places : Keys C) (keys : Keys K) (p : ℕ) (positive : 0 < p)
    (monomial : C → Monomial) (row : C → List (Term K)) (c d : List (Term C))
    → combination keys.cmp keys.act p monomial row (add places.cmp p c d)
    ≡ add keys.cmp p (combination keys.cmp keys.act p monomial row c) (combination keys.cmp keys.act p monomial row d)
combination-add places keys p positive monomial row c d =
    combination-same keys p positive monomial row (add places.cmp p c d) _
    (IsCanonical-add keys.cmp keys.order p positive _ _)
    (λ g additive.
    total-add places.cmp places.order p _ (share-additive keys p monomial row g additive) c d
    ∙ (λ i. sum_mod p (sym (total-combination keys p monomial row g additive c) i) (sym (total-combination keys p monomial row g additive d) i))
    ∙ sym (total-add keys.cmp keys.order p g additive _ _))
