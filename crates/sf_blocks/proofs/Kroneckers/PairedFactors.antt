-- Kronecker products of rows that are made of the rows of two matrices.
use Rattle.std.proofs.Common.{◌≡◌, refl, ℕ, ◌+◌, ◌*◌, ◌%◌, ◌<◌, List, [], ◌∷◌, ◌++◌, ◌+ℤ◌, ap, sym, ◌∙◌, arith}
use Rattle.std.specs.List.{AllByRecursion}
use Rattle.sf_algebra.specs.Matrices.{degrees_of}
use Rattle.sf_algebra.specs.MatrixOperations.{moved, kronecker_terms}
use Rattle.sf_algebra.specs.Multiples.{place_product, combination}
use Rattle.sf_algebra.specs.Residues.{sum_mod}
use Rattle.sf_algebra.specs.Rings.{Ring}
use Rattle.sf_algebra.specs.Sums.{add}
use Rattle.sf_algebra.specs.Terms.{Term}
use Rattle.sf_algebra.specs.VectorOperations.{row_sum}
use Rattle.sf_algebra.specs.Vectors.{Place, Vector, place_cmp}
use Rattle.sf_algebra.proofs.GradedMatrices.MatrixRows.{StandsWithin}
use Rattle.sf_algebra.proofs.Monomials.Orders.{place_cmp_linear}
use Rattle.sf_algebra.proofs.Multiplying.CombinationLaws.{combination-add, combination-add_rows, combination-append}
use Rattle.sf_algebra.proofs.Multiplying.Keys.{place_keys}
use Rattle.sf_algebra.proofs.Tensors.Kronecker.{kronecker_row}
use Rattle.sf_algebra.proofs.Tensors.KroneckerProducts.{kronecker_rows}
use Rattle.sf_algebra.proofs.Tensors.KroneckerTerms.{moved_term, kronecker_term, IsCanonical-kronecker_terms, total-kronecker_terms}
use Rattle.sf_algebra.proofs.Tensors.KroneckerUnits.{IsCanonical-moved}
use Rattle.sf_algebra.proofs.Terms.Coefficients.{same_from_total}
use Rattle.sf_algebra.proofs.Terms.DoubleTotals.{total-map, total-same}
use Rattle.sf_algebra.proofs.Terms.Sums.{normal-canonical}
use Rattle.sf_algebra.proofs.Terms.Totals.{IsAdditive, total-add}
use Rattle.sf_algebra.proofs.Vectors.RowSums.{IsCanonical-row_sum}
use Rattle.sf_groebner.proofs.PartsOfBases.PairedVectors.{IsCanonical-pair}
use Rattle.sf_blocks.specs.MatrixSums.{row_by_row}
use Rattle.sf_blocks.proofs.MatrixSums.RowsByRows.{row_by_row-append}

degrees-kronecker_row : (ring : Ring) (n m : ℕ) (u v : Vector) (ws xs : List Vector) → u.degree ≡ v.degree
    → degrees_of ws ≡ degrees_of xs → degrees_of (kronecker_row ring n u ws) ≡ degrees_of (kronecker_row ring m v xs)
degrees-kronecker_row ring n m u v [] [] same e = refl
degrees-kronecker_row ring n m u v [] (x ∷ xs) same e = cc
degrees-kronecker_row ring n m u v (w ∷ ws) [] same e = cc
degrees-kronecker_row ring n m u v (w ∷ ws) (x ∷ xs) same e =
    let first : w.degree ≡ x.degree = cc in
    let others : degrees_of ws ≡ degrees_of xs = cc in
    λ i. (same i +ℤ first i) ∷ degrees-kronecker_row ring n m u v ws xs same others i

module _ (ring : Ring) (n : ℕ) (f g : List (Term Place) → List (Term Place) → List (Term Place)) where
  -- where the terms of the first factor are made of two, what a product is made of
  module _ (P Q : Vector → Type 0)
      (made : (u v w : Vector) → P u → Q w → kronecker_terms ring n (f u.terms v.terms) w.terms
      ≡ g (kronecker_terms ring n u.terms w.terms) (kronecker_terms ring n v.terms w.terms)) where
    kronecker_row-pair : (u v : Vector) → P u → u.degree ≡ v.degree → (ws : List Vector) → AllByRecursion Q ws
        → kronecker_row ring n (record { degree = u.degree; terms = f u.terms v.terms }) ws
        ≡ row_by_row g (kronecker_row ring n u ws) (kronecker_row ring n v ws)
    kronecker_row-pair u v h same [] k = refl
    kronecker_row-pair u v h same (w ∷ ws) k =
        λ i. record { degree = u.degree +ℤ w.degree; terms = made u v w h k.0 i } ∷ kronecker_row-pair u v h same ws k.1 i

    pub kronecker_rows-pairs : (us vs ws : List Vector) → degrees_of us ≡ degrees_of vs → AllByRecursion P us
        → AllByRecursion Q ws
        → kronecker_rows ring n (row_by_row f us vs) ws
        ≡ row_by_row g (kronecker_rows ring n us ws) (kronecker_rows ring n vs ws)
    kronecker_rows-pairs [] [] ws e h k = refl
    kronecker_rows-pairs [] (v ∷ vs) ws e h k = cc
    kronecker_rows-pairs (u ∷ us) [] ws e h k = cc
    kronecker_rows-pairs (u ∷ us) (v ∷ vs) ws e h k =
        let same : u.degree ≡ v.degree = cc in
        let others : degrees_of us ≡ degrees_of vs = cc in
        (λ i. kronecker_row-pair u v h.0 same ws k i ++ kronecker_rows-pairs us vs ws others h.1 k i)
        ∙ sym (row_by_row-append g (kronecker_row ring n u ws) (kronecker_row ring n v ws)
        (kronecker_rows ring n us ws) (kronecker_rows ring n vs ws) (degrees-kronecker_row ring n n u v ws ws same refl))

  -- and those of the second
  module _ (m : ℕ) (made : (u v w : Vector) → kronecker_terms ring n w.terms (f u.terms v.terms)
      ≡ g (kronecker_terms ring n w.terms u.terms) (kronecker_terms ring m w.terms v.terms)) where
    kronecker_row-pairs_second : (w : Vector) (us vs : List Vector)
        → kronecker_row ring n w (row_by_row f us vs)
        ≡ row_by_row g (kronecker_row ring n w us) (kronecker_row ring m w vs)
    kronecker_row-pairs_second w [] vs = refl
    kronecker_row-pairs_second w (u ∷ us) [] = refl
    kronecker_row-pairs_second w (u ∷ us) (v ∷ vs) =
        λ i. record { degree = w.degree +ℤ u.degree; terms = made u v w i } ∷ kronecker_row-pairs_second w us vs i

    pub kronecker_rows-pairs_second : (ws us vs : List Vector) → degrees_of us ≡ degrees_of vs
        → kronecker_rows ring n ws (row_by_row f us vs)
        ≡ row_by_row g (kronecker_rows ring n ws us) (kronecker_rows ring m ws vs)
    kronecker_rows-pairs_second [] us vs e = refl
    kronecker_rows-pairs_second (w ∷ ws) us vs e =
        (λ i. kronecker_row-pairs_second w us vs i ++ kronecker_rows-pairs_second ws us vs e i)
        ∙ sym (row_by_row-append g (kronecker_row ring n w us) (kronecker_row ring m w vs)
        (kronecker_rows ring n ws us) (kronecker_rows ring m ws vs) (degrees-kronecker_row ring n m w w us vs refl e))

moved_term-additive : (p by : ℕ) (g : Term Place → ℕ) → IsAdditive p g → IsAdditive p (λ t. g (moved_term by t))
moved_term-additive p by g additive = record {
  at_zero = λ k. additive.at_zero (record { position = by + k.position; monomial = k.monomial });
  at_sum = λ k a b. additive.at_sum (record { position = by + k.position; monomial = k.monomial }) a b;
}

module _ (ring : Ring) (positive : 0 < ring.modulus) where
  -- terms moved on are added as before
  pub moved-row_sum : (by : ℕ) (us vs : List (Term Place))
      → moved by (row_sum ring us vs) ≡ row_sum ring (moved by us) (moved by vs)
  moved-row_sum by us vs =
      same_from_total (place_cmp ring.weights) (place_cmp_linear ring.weights) ring.modulus positive _ _
      (IsCanonical-moved ring by (row_sum ring us vs) (IsCanonical-row_sum ring positive us vs))
      (IsCanonical-row_sum ring positive (moved by us) (moved by vs))
      (λ g additive.
      total-map ring.modulus g (moved_term by) (row_sum ring us vs)
      ∙ total-add (place_cmp ring.weights) (place_cmp_linear ring.weights) ring.modulus (λ t. g (moved_term by t))
      (moved_term-additive ring.modulus by g additive) us vs
      ∙ (λ i. sum_mod ring.modulus (sym (total-map ring.modulus g (moved_term by) us) i)
      (sym (total-map ring.modulus g (moved_term by) vs) i))
      ∙ sym (total-add (place_cmp ring.weights) (place_cmp_linear ring.weights) ring.modulus g additive (moved by us)
      (moved by vs)))

  module _ (n : ℕ) where
    pub kronecker_terms-sum_first : (us vs ws : List (Term Place))
        → kronecker_terms ring n (row_sum ring us vs) ws
        ≡ row_sum ring (kronecker_terms ring n us ws) (kronecker_terms ring n vs ws)
    kronecker_terms-sum_first us vs ws =
        combination-add (place_keys ring.weights) (place_keys ring.weights) ring.modulus positive (λ k. k.monomial)
        (λ k. moved (k.position * n) ws) us vs

    pub kronecker_terms-sum_second : (ws us vs : List (Term Place))
        → kronecker_terms ring n ws (row_sum ring us vs)
        ≡ row_sum ring (kronecker_terms ring n ws us) (kronecker_terms ring n ws vs)
    kronecker_terms-sum_second ws us vs =
        (λ i. combination (place_cmp ring.weights) place_product ring.modulus (λ (k : Place). k.monomial)
        (λ (k : Place). moved-row_sum (k.position * n) us vs i) ws)
        ∙ combination-add_rows (place_keys ring.weights) ring.modulus positive (λ k. k.monomial)
        (λ k. moved (k.position * n) us) (λ k. moved (k.position * n) vs) ws

    -- the first vector moved on, the product is moved by so many blocks
    pub kronecker_terms-moved : (by : ℕ) (vs ws : List (Term Place))
        → kronecker_terms ring n (moved by vs) ws ≡ moved (by * n) (kronecker_terms ring n vs ws)
    kronecker_terms-moved by vs ws =
        same_from_total (place_cmp ring.weights) (place_cmp_linear ring.weights) ring.modulus positive _ _
        (IsCanonical-kronecker_terms ring n positive (moved by vs) ws)
        (IsCanonical-moved ring (by * n) _ (IsCanonical-kronecker_terms ring n positive vs ws))
        (λ g additive.
        total-kronecker_terms ring n positive g additive (moved by vs) ws
        ∙ total-map ring.modulus _ (moved_term by) vs
        ∙ total-same ring.modulus _ _ vs
        (λ t. ap (λ m. m % ring.modulus) (total-same ring.modulus _ _ ws (λ u. ap (λ s. g s % ring.modulus) (terms t u))))
        ∙ sym (total-map ring.modulus g (moved_term (by * n)) (kronecker_terms ring n vs ws)
        ∙ total-kronecker_terms ring n positive (λ t. g (moved_term (by * n) t))
        (moved_term-additive ring.modulus (by * n) g additive) vs ws))
      where
        terms : (t u : Term Place)
            → kronecker_term ring.modulus n (moved_term by t) u
            ≡ moved_term (by * n) (kronecker_term ring.modulus n t u)
        terms t u =
            let place : (by + t.at.position) * n + u.at.position ≡ by * n + (t.at.position * n + u.at.position) =
            omega arith in
            ap (λ k. record {
              at = record {
                position = k;
                monomial = (kronecker_term ring.modulus n t u).at.monomial;
              };
              coefficient = (kronecker_term ring.modulus n t u).coefficient;
            }) place

    -- a vector with another one behind it, as the first factor
    pub kronecker_terms-pair : (k : ℕ) (us vs ws : List (Term Place))
        → StandsWithin (k * n) (kronecker_terms ring n us ws)
        → kronecker_terms ring n (us ++ moved k vs) ws
        ≡ kronecker_terms ring n us ws ++ moved (k * n) (kronecker_terms ring n vs ws)
    unfolding add
    kronecker_terms-pair k us vs ws within =
        combination-append (place_keys ring.weights) ring.modulus positive (λ k. k.monomial)
        (λ k. moved (k.position * n) ws) us (moved k vs)
        ∙ ap (row_sum ring (kronecker_terms ring n us ws)) (kronecker_terms-moved k vs ws)
        ∙ normal-canonical (place_cmp ring.weights) (place_cmp_linear ring.weights) ring.modulus positive
        (kronecker_terms ring n us ws ++ moved (k * n) (kronecker_terms ring n vs ws))
        (IsCanonical-pair ring (k * n) (kronecker_terms ring n us ws) (kronecker_terms ring n vs ws)
        within (IsCanonical-kronecker_terms ring n positive us ws) (IsCanonical-kronecker_terms ring n positive vs ws))
