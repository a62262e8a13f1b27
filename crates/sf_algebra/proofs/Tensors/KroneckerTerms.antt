-- The tensor product of two vectors: its totals, its entries, and that it is linear in both.
use Rattle.std.proofs.Common.{◌≡◌, ℕ, ◌+◌, ◌*◌, ◌%◌, ◌<◌, List, [], sym, ap, ◌∙◌}
use Rattle.sf_algebra.specs.MatrixOperations.{moved, kronecker_terms}
use Rattle.sf_algebra.specs.Monomials.{Monomial}
use Rattle.sf_algebra.specs.Multiples.{place_product, term_product, combination}
use Rattle.sf_algebra.specs.Rings.{Ring}
use Rattle.sf_algebra.specs.Sums.{total}
use Rattle.sf_algebra.specs.Terms.{Term}
use Rattle.sf_algebra.specs.Vectors.{Place, place_cmp, IsCanonicalRow}
use Rattle.sf_algebra.proofs.GradedMatrices.ProductParts.{combination-no_rows}
use Rattle.sf_algebra.proofs.Multiplying.Associativity.{combination_combination}
use Rattle.sf_algebra.proofs.Multiplying.CombinationLaws.{combination-nil, combination-same}
use Rattle.sf_algebra.proofs.Multiplying.Combinations.{IsCanonical-combination, factor, total-combination}
use Rattle.sf_algebra.proofs.Multiplying.Keys.{place_keys}
use Rattle.sf_algebra.proofs.Multiplying.MultipleLaws.{term_product-exchange}
use Rattle.sf_algebra.proofs.Multiplying.Multiples.{term_product-additive}
use Rattle.sf_algebra.proofs.Terms.DoubleTotals.{total_exchange, total-map, total-same}
use Rattle.sf_algebra.proofs.Terms.Totals.{IsAdditive}
use Rattle.sf_algebra.proofs.Vectors.Rows.{position_rows}

-- a term that stands so many positions further on
abbrev pub moved_term : ℕ → Term Place → Term Place
moved_term by t = record {
  at = record { position = by + t.at.position; monomial = t.at.monomial };
  coefficient = t.coefficient;
}

-- the tensor product of two terms
abbrev pub kronecker_term : ℕ → ℕ → Term Place → Term Place → Term Place
kronecker_term p n t u =
    term_product place_product p (factor (λ (k : Place). k.monomial) t) (moved_term (t.at.position * n) u)

moved_term-additive : (p by : ℕ) (g : Term Place → ℕ) → IsAdditive p g → IsAdditive p (λ t. g (moved_term by t))
moved_term-additive p by g additive = record {
  at_zero = λ k. additive.at_zero (record { position = by + k.position; monomial = k.monomial });
  at_sum = λ k a b. additive.at_sum (record { position = by + k.position; monomial = k.monomial }) a b;
}

module _ (ring : Ring) (n : ℕ) (positive : 0 < ring.modulus) where
  pub IsCanonical-kronecker_terms : (v w : List (Term Place)) → IsCanonicalRow ring (kronecker_terms ring n v w)
  IsCanonical-kronecker_terms v w =
      IsCanonical-combination (place_keys ring.weights) ring.modulus (λ k. k.monomial)
      (λ k. moved (k.position * n) w) positive v

  pub kronecker_terms-nil_first : (w : List (Term Place)) → kronecker_terms ring n [] w ≡ []
  kronecker_terms-nil_first w =
      combination-nil (place_keys ring.weights) ring.modulus positive (λ k. k.monomial) (λ k. moved (k.position * n) w)

  pub kronecker_terms-nil : (v : List (Term Place)) → kronecker_terms ring n v [] ≡ []
  kronecker_terms-nil v =
      combination-no_rows (place_keys ring.weights) ring.modulus positive (λ (k : Place). k.monomial) v

  pub total-kronecker_terms : (g : Term Place → ℕ) → IsAdditive ring.modulus g → (v w : List (Term Place))
      → total ring.modulus g (kronecker_terms ring n v w)
      ≡ total ring.modulus (λ t. total ring.modulus (λ u. g (kronecker_term ring.modulus n t u)) w) v
  total-kronecker_terms g additive v w =
      total-combination (place_keys ring.weights) ring.modulus (λ k. k.monomial)
      (λ k. moved (k.position * n) w) g additive v
      ∙ total-same ring.modulus _ _ v
      (λ t. ap (λ m. m % ring.modulus) (total-map ring.modulus _ (moved_term (t.at.position * n)) w))

  -- the first vector a combination
  pub kronecker_terms-combination_first : {C : Type 0} (monomial : C → Monomial) (row : C → List (Term Place))
      (c : List (Term C)) (w : List (Term Place))
      → kronecker_terms ring n (combination (place_cmp ring.weights) place_product ring.modulus monomial row c) w
      ≡ combination (place_cmp ring.weights) place_product ring.modulus monomial
      (λ k. kronecker_terms ring n (row k) w) c
  kronecker_terms-combination_first monomial row c w =
      combination_combination (place_keys ring.weights) (place_keys ring.weights) ring.modulus positive
      (λ k. k.monomial) (λ k. moved (k.position * n) w)
      (position_rows ring.weights (λ i. moved (i * n) w)) monomial row c

  -- the second vector a combination
  pub kronecker_terms-combination : {C : Type 0} (monomial : C → Monomial) (row : C → List (Term Place))
      (c : List (Term C)) (v : List (Term Place))
      → kronecker_terms ring n v (combination (place_cmp ring.weights) place_product ring.modulus monomial row c)
      ≡ combination (place_cmp ring.weights) place_product ring.modulus monomial
      (λ k. kronecker_terms ring n v (row k)) c
  kronecker_terms-combination monomial row c v =
      sym (combination-same (place_keys ring.weights) ring.modulus positive monomial (λ k. kronecker_terms ring n v (row k)) c _ (IsCanonical-kronecker_terms v _)
      (λ g additive.
      total-same ring.modulus _ _ c (λ s. ap (λ m. m % ring.modulus)
      (total-kronecker_terms _ (term_product-additive place_product ring.modulus g additive (factor monomial s)) v (row s.at)))
      ∙ total_exchange ring.modulus
      (λ s t. total ring.modulus (λ u. g (term_product place_product ring.modulus (factor monomial s) (kronecker_term ring.modulus n t u))) (row s.at)) c v
      ∙ total-same ring.modulus _ _ v (λ t. ap (λ m. m % ring.modulus)
      (total-same ring.modulus _ _ c (λ s. ap (λ m. m % ring.modulus)
      (total-same ring.modulus _ _ (row s.at) (λ u. ap (λ x. g x % ring.modulus) (term_product-exchange (place_keys ring.weights) ring.modulus (factor monomial s) (factor (λ (k : Place). k.monomial) t) (moved_term (t.at.position * n) u)))))
      ∙ sym (total-combination (place_keys ring.weights) ring.modulus monomial row _ (moved_term-additive ring.modulus (t.at.position * n) _ (term_product-additive place_product ring.modulus g additive (factor (λ (k : Place). k.monomial) t))) c)))
      ∙ sym (total-kronecker_terms g additive v _)))
