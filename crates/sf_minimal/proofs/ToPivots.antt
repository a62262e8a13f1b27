-- A row that is in the span of the other matrix and the earlier rows has a pivot.
use Rattle.std.proofs.Common.{◌≡◌, Bool, true, IsTrue, ℕ, suc, ◌-◌, ◌<◌, List, [], ◌∷◌, length, take, refl, sym, ◌∙◌, ap, subst, arith}
use Rattle.std.specs.declared.cmp.Ordering.TheVariants.{Less}
use Rattle.std.proofs.lemmas.List.{length-map, length-take-le}
use Rattle.std.specs.List.{AllByRecursion}
use Rattle.sf_algebra.specs.Matrices.{Matrix, IsMatrix, degrees_of}
use Rattle.sf_algebra.specs.MatrixOperations.{row_at, row_combination}
use Rattle.sf_algebra.specs.Rings.{IsRing, Ring}
use Rattle.sf_algebra.specs.Sums.{normal}
use Rattle.sf_algebra.specs.Terms.{Term}
use Rattle.sf_algebra.specs.VectorOperations.{row_sum}
use Rattle.sf_algebra.specs.Vectors.{Place, Vector, IsVector, IsCanonicalRow, place_cmp}
use Rattle.sf_algebra.proofs.Basics.Filters.{AllByRecursion-filter_keeps}
use Rattle.sf_algebra.proofs.Basics.Lists.{AllByRecursion-weaken}
use Rattle.sf_algebra.proofs.Terms.Normal.{IsAboveEach}
use Rattle.sf_algebra.proofs.Vectors.Positions.{place_cmp-later}
use Rattle.sf_algebra.proofs.Vectors.Rows.{IsCanonical-row_combination}
use Rattle.sf_algebra.proofs.Vectors.UnitRows.{row_combination-unit, unit_term}
use Rattle.sf_groebner.specs.Criterion.{IsForRows}
use Rattle.sf_groebner.specs.MinimalGenerators.{IsInSum}
use Rattle.sf_groebner.specs.ReducedBases.{HasDividedLead}
use Rattle.sf_groebner.specs.Spans.{InSpan}
use Rattle.sf_groebner.proofs.PairTheorems.Multiplied.{EachPlace-products}
use Rattle.sf_groebner.proofs.PairTheorems.Schreyer.{IsSpanned}
use Rattle.sf_matrix.specs.KeptNumbers.{vector_at}
use Rattle.sf_minimal.specs.Constants.{constants, turned}
use Rattle.sf_minimal.specs.Numbers.{has_pivot}
use Rattle.sf_minimal.specs.Pivots.{ArePivots}
use Rattle.sf_minimal.proofs.ChosenRows.{chosen, chosen-first}
use Rattle.sf_minimal.proofs.ConstantTerms.{constants-each, constants-first}
use Rattle.sf_minimal.proofs.Differences.{minus, normal-first, row_combination-minus}
use Rattle.sf_minimal.proofs.Echelons.{spanned-divided}
use Rattle.sf_minimal.proofs.VectorRows.{AllByRecursion-vector_at, row_at-vector_at, row_combination-take}

-- the pivots span the constant terms at chosen rows
abbrev pub HasSpannedConstants : Matrix → List Vector → (ℕ → Bool) → List (Term Place) → Type 0
HasSpannedConstants m pivots choice c = IsSpanned m.ring pivots (constants (length m.rows) (chosen choice c))

-- so it is with all coefficients that give a combination of the other rows
abbrev pub HasSpannedRelations : Matrix → List Vector → List Vector → (ℕ → Bool) → Type 0
HasSpannedRelations m others pivots choice = (c a : List (Term Place)) → AllByRecursion (IsForRows m.rows) c
    → row_combination m.ring m.rows c ≡ row_combination m.ring others a
    → HasSpannedConstants m pivots choice c

module _ (m base pivots : Matrix) (positive : IsRing m.ring) (above : 1 < m.ring.modulus) (matrix : IsMatrix m)
    (rings : base.ring ≡ m.ring) (pivot_rings : pivots.ring ≡ m.ring) (pivot_matrix : IsMatrix pivots)
    (are_pivots : ArePivots pivots) (choice : ℕ → Bool) (spanned : HasSpannedRelations m base.rows pivots.rows choice) where
  pub in_sum-pivot : (i : ℕ) → i < length m.rows → choice i ≡ true
      → IsInSum m.ring (take i m.rows) (InSpan base) (vector_at m.rows i)
      → IsTrue (has_pivot pivots.rows (length m.rows) i)
  in_sum-pivot i within is_chosen h = pivot
    where
      n : ℕ
      n = length m.rows

      y : List (Term Place)
      y = h.in_span.coefficients.terms

      y_before : AllByRecursion (λ (t : Term Place). t.at.position < i) y
      y_before =
          AllByRecursion-weaken _ _ (λ t k. before t.at.position k.0) y h.in_span.homogeneous.homogeneous
        where
          before : (j : ℕ) → j < length (degrees_of (take i m.rows)) → j < i
          before j k = let size : length (take i m.rows) ≡ i = length-take-le i m.rows (omega arith) in omega (arith, rw (length-map, size) at k)

      a : List (Term Place)
      a = h.in_module.coefficients.terms

      first : row_combination m.ring base.rows a ≡ h.first.terms
      first = subst (λ (r : Ring). row_combination r base.rows a ≡ h.first.terms) rings (ap (λ x. x.terms) h.in_module.value)

      canonical : IsCanonicalRow m.ring h.first.terms
      canonical = subst (IsCanonicalRow m.ring) first (IsCanonical-row_combination m.ring positive.modulus base.rows a)

      second : h.second.terms ≡ row_combination m.ring m.rows y
      second = sym (ap (λ x. x.terms) h.in_span.value) ∙ row_combination-take m.ring positive i m.rows y y_before

      row_canonical : IsCanonicalRow m.ring (row_at m.rows i)
      row_canonical =
          subst (IsCanonicalRow m.ring) (sym (row_at-vector_at m.rows i))
          (AllByRecursion-vector_at (IsVector m.ring m.target) m.rows matrix i within).canonical

      row : row_combination m.ring m.rows (unit_term i ∷ []) ≡ row_sum m.ring h.first.terms (row_combination m.ring m.rows y)
      row =
          row_combination-unit m.ring positive.modulus m.rows i row_canonical
          ∙ row_at-vector_at m.rows i
          ∙ sym h.sum
          ∙ ap (row_sum m.ring h.first.terms) second

      away : List (Term Place)
      away = minus m.ring positive y

      away_before : AllByRecursion (λ (t : Term Place). t.at.position < i) away
      away_before = EachPlace-products (λ k. k.position < i) (λ k. k.position < i) m.ring.modulus _ (λ k e. e) y y_before

      for_rows : AllByRecursion (IsForRows m.rows) (unit_term i ∷ away)
      for_rows = (within, AllByRecursion-weaken _ _ (λ t k. later t.at.position k) away away_before)
        where
          later : (j : ℕ) → j < i → j < length m.rows
          later j k = omega arith

      unit : Term Place
      unit = turned n (unit_term i)

      kept : List (Term Place)
      kept = chosen choice away

      lower : IsAboveEach (place_cmp m.ring.weights) unit.at (constants n kept)
      lower =
          constants-each (λ t. place_cmp m.ring.weights t.at unit.at ≡ Less) n kept
          (AllByRecursion-weaken _ _ (λ t k _. place_cmp-later m.ring.weights _ unit.at (further t.at.position k)) kept
          (AllByRecursion-filter_keeps (λ (t : Term Place). t.at.position < i) (λ (t : Term Place). choice t.at.position) away away_before))
        where
          further : (j : ℕ) → j < i → n - suc i < n - suc j
          further j k = omega arith

      pivot : IsTrue (has_pivot pivots.rows n i)
      pivot =
          let inside : IsSpanned m.ring pivots.rows (constants n (unit_term i ∷ kept)) =
          subst (λ us. IsSpanned m.ring pivots.rows (constants n us)) (chosen-first choice (unit_term i) away is_chosen)
          (spanned (unit_term i ∷ away) a for_rows
          (row_combination-minus m.ring positive m.rows (unit_term i ∷ []) y h.first.terms canonical row ∙ sym first)) in
          let divided : HasDividedLead pivots.rows (normal (place_cmp m.ring.weights) m.ring.modulus (constants n (unit_term i ∷ kept))) =
          subst (λ (r : Ring). HasDividedLead pivots.rows (normal (place_cmp r.weights) r.modulus (constants n (unit_term i ∷ kept)))) pivot_rings
          (spanned-divided pivots (subst IsRing (sym pivot_rings) positive) pivot_matrix are_pivots (constants n (unit_term i ∷ kept))
          (subst (λ (r : Ring). IsSpanned r pivots.rows (constants n (unit_term i ∷ kept))) (sym pivot_rings) inside)) in
          let shape =
          ap (normal (place_cmp m.ring.weights) m.ring.modulus) (constants-first n (unit_term i) kept refl)
          ∙ normal-first m.ring positive unit (constants n kept) (omega arith) above lower in
          subst (HasDividedLead pivots.rows) shape divided
