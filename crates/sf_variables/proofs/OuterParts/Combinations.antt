-- Over rows in the first n variables the outer part of a combination is the combination with the outer part of the
-- coefficients: a product with a term of a row has the outer part of the coefficient.
use Rattle.std.proofs.Common.{◌≡◌, ℕ, ◌%◌, ◌<◌, if◌then◌else◌, Bool, true, false, List, filter, refl, sym, ◌∙◌, ap}
use Rattle.std.proofs.Math.Nat.{zero-mod}
use Rattle.sf_algebra.specs.MatrixOperations.{row_at, row_combination}
use Rattle.sf_algebra.specs.Monomials.{Monomial}
use Rattle.sf_algebra.specs.Multiples.{place_product, term_product}
use Rattle.sf_algebra.specs.Residues.{sum_mod}
use Rattle.sf_algebra.specs.Rings.{Ring}
use Rattle.sf_algebra.specs.Sums.{total}
use Rattle.sf_algebra.specs.Terms.{Term}
use Rattle.sf_algebra.specs.VectorOperations.{row_sum}
use Rattle.sf_algebra.specs.Vectors.{Place, Vector, place_cmp}
use Rattle.sf_algebra.proofs.Arithmetic.Residues.{sum_mod-zero}
use Rattle.sf_algebra.proofs.Basics.Filters.{total-filter}
use Rattle.sf_algebra.proofs.Basics.Lists.{AllByRecursion-weaken}
use Rattle.sf_algebra.proofs.GradedMatrices.MatrixRows.{row_at-each}
use Rattle.sf_algebra.proofs.Monomials.MonomialEquality.{same_exponents}
use Rattle.sf_algebra.proofs.Multiplying.CombinationLaws.{combination-same}
use Rattle.sf_algebra.proofs.Multiplying.Combinations.{factor, share, total-combination}
use Rattle.sf_algebra.proofs.Multiplying.Keys.{place_keys}
use Rattle.sf_algebra.proofs.Terms.DoubleTotals.{total-each, total-map, total-same, total-zero}
use Rattle.sf_algebra.proofs.Terms.Coefficients.{same_from_total}
use Rattle.sf_algebra.proofs.Terms.Totals.{IsAdditive, total-add}
use Rattle.sf_algebra.proofs.Vectors.RowSums.{IsCanonical-row_sum}
use Rattle.sf_algebra.proofs.Monomials.Orders.{place_cmp_linear}
use Rattle.sf_algebra.proofs.Vectors.Rows.{IsCanonical-row_combination}
use Rattle.sf_variables.specs.Variables.{IsInVariables, IsRowInVariables, AreInVariables}
use Rattle.sf_variables.proofs.OuterParts.Splitting.{outer, inner-product_inside, outer-product_inside}
use Rattle.sf_variables.proofs.OuterParts.Vectors.{IsCanonical-outer_terms, inner_place, inner_term, is_at_outer, outer_terms}

module _ (n : ℕ) (b : Monomial) (p : ℕ) (g : Term Place → ℕ) where
  -- a number for each term whose outer part is b, and 0 for the others
  abbrev at_outer : Term Place → ℕ
  at_outer t = if is_at_outer n b t then g (inner_term n t) else 0

  total-outer_terms : (ts : List (Term Place)) → total p g (outer_terms n b ts) ≡ total p at_outer ts
  total-outer_terms ts =
      total-map p g (inner_term n) (filter (is_at_outer n b) ts)
      ∙ total-filter (is_at_outer n b) p (λ t. g (inner_term n t)) ts

  at_outer-additive : IsAdditive p g → IsAdditive p at_outer
  at_outer-additive additive = record {
    at_zero = λ k. zeros k (same_exponents (outer n k.monomial) b);
    at_sum = λ k x y. sums k x y (same_exponents (outer n k.monomial) b);
  }
    where
      zeros : (k : Place) (c : Bool) → (if c then g (record { at = inner_place n k; coefficient = 0 }) else 0) % p ≡ 0
      zeros k true = additive.at_zero (inner_place n k)
      zeros k false = zero-mod p

      sums : (k : Place) (x y : ℕ) (c : Bool)
          → (if c then g (record { at = inner_place n k; coefficient = sum_mod p x y }) else 0) % p
          ≡ sum_mod p (if c then g (record { at = inner_place n k; coefficient = x }) else 0)
          (if c then g (record { at = inner_place n k; coefficient = y }) else 0)
      sums k x y true = additive.at_sum (inner_place n k) x y
      sums k x y false = sym (sum_mod-zero p 0)

  -- a product with a term over the first n variables
  at_outer-product : (t u : Term Place) → IsInVariables n u.at.monomial
      → at_outer (term_product place_product p (factor (λ k. k.monomial) t) u)
      ≡ (if is_at_outer n b t then g (term_product place_product p (factor (λ k. k.monomial) (inner_term n t)) u) else 0)
  at_outer-product t u h =
      let outside = outer-product_inside n t.at.monomial u.at.monomial h in
      let inside = inner-product_inside n t.at.monomial u.at.monomial h in
      λ i. if same_exponents (outside i) b then g (record {
        at = record { position = u.at.position; monomial = inside i };
        coefficient = (term_product place_product p (factor (λ k. k.monomial) t) u).coefficient;
      }) else 0

  share-outer : (rows : List Vector) → AreInVariables n rows → (t : Term Place)
      → share place_product p (λ k. k.monomial) (λ k. row_at rows k.position) at_outer t
      ≡ (if is_at_outer n b t then share place_product p (λ k. k.monomial) (λ k. row_at rows k.position) g
      (inner_term n t) else 0)
  share-outer rows h t =
      total-each p _
      (λ u. if is_at_outer n b t then g (term_product place_product p
      (factor (λ k. k.monomial) (inner_term n t)) u) else 0)
      (row_at rows t.at.position)
      (AllByRecursion-weaken _ _ (λ u inside. ap (λ m. m % p) (at_outer-product t u inside))
      (row_at rows t.at.position) (row_at-each (IsRowInVariables n) tt rows h t.at.position))
      ∙ chosen (is_at_outer n b t)
    where
      chosen : (c : Bool) → total p
          (λ u. if c then g (term_product place_product p (factor (λ k. k.monomial) (inner_term n t)) u) else 0)
          (row_at rows t.at.position)
          ≡ (if c then share place_product p (λ k. k.monomial) (λ k. row_at rows k.position) g (inner_term n t) else 0)
      chosen true = refl
      chosen false = total-zero p (λ _. 0) (row_at rows t.at.position) (λ u. zero-mod p)

-- the outer part of a sum
pub outer_terms-sum : (n : ℕ) (b : Monomial) (ring : Ring) → 0 < ring.modulus → (us vs : List (Term Place))
    → outer_terms n b (row_sum ring us vs) ≡ row_sum ring (outer_terms n b us) (outer_terms n b vs)
outer_terms-sum n b ring positive us vs =
    let order = place_cmp_linear ring.weights in
    same_from_total (place_cmp ring.weights) order ring.modulus positive _ _
    (IsCanonical-outer_terms n b ring _ (IsCanonical-row_sum ring positive us vs))
    (IsCanonical-row_sum ring positive (outer_terms n b us) (outer_terms n b vs))
    (λ g additive.
    total-outer_terms n b ring.modulus g (row_sum ring us vs)
    ∙ total-add (place_cmp ring.weights) order ring.modulus (at_outer n b ring.modulus g)
    (at_outer-additive n b ring.modulus g additive) us vs
    ∙ (λ i. sum_mod ring.modulus (sym (total-outer_terms n b ring.modulus g us) i)
    (sym (total-outer_terms n b ring.modulus g vs) i))
    ∙ sym (total-add (place_cmp ring.weights) order ring.modulus g additive (outer_terms n b us) (outer_terms n b vs)))

pub row_combination-outer_terms : (n : ℕ) (b : Monomial) (ring : Ring) → 0 < ring.modulus → (rows : List Vector)
    → AreInVariables n rows → (c : List (Term Place))
    → row_combination ring rows (outer_terms n b c) ≡ outer_terms n b (row_combination ring rows c)
row_combination-outer_terms n b ring positive rows h c =
    combination-same (place_keys ring.weights) ring.modulus positive (λ k. k.monomial) (λ k. row_at rows k.position)
    (outer_terms n b c) (outer_terms n b (row_combination ring rows c))
    (IsCanonical-outer_terms n b ring _ (IsCanonical-row_combination ring positive rows c))
    (λ g additive.
    total-outer_terms n b ring.modulus (share place_product ring.modulus (λ k. k.monomial)
    (λ k. row_at rows k.position) g) c
    ∙ total-same ring.modulus _ _ c (λ t. ap (λ m. m % ring.modulus) (sym (share-outer n b ring.modulus g rows h t)))
    ∙ sym (total-combination (place_keys ring.weights) ring.modulus (λ k. k.monomial) (λ k. row_at rows k.position)
    (at_outer n b ring.modulus g) (at_outer-additive n b ring.modulus g additive) c)
    ∙ sym (total-outer_terms n b ring.modulus g (row_combination ring rows c)))
