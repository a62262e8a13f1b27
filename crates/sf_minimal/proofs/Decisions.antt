-- At the end the pivots decide which rows are in the span of the other matrix and the earlier rows: at the rows of a degree
-- of which some row has no pivot, the pivots span the constant terms of all relations.
use Rattle.std.proofs.Common.{◌≡◌, true, false, int_eq, inl, inr, ⊎_elim, ◌⊎◌, ℕ, ◌<◌, ◌≤◌, List, [], length, take, refl, sym, ◌∙◌, subst, arith, IsTrue, ℤ}
use Rattle.std.proofs.lemmas.Bool.{cases_Bool, cases_lt}
use Rattle.std.proofs.lemmas.Bool.Decides.{Decides-int_eq}
use Rattle.std.specs.List.{AllByRecursion}
use Rattle.sf_algebra.specs.Matrices.{Matrix, IsMatrix, row_degrees}
use Rattle.sf_algebra.specs.MatrixOperations.{row_at, row_combination}
use Rattle.sf_algebra.specs.Rings.{IsOverField, IsRing}
use Rattle.sf_algebra.specs.Terms.{Term}
use Rattle.sf_algebra.specs.Vectors.{Place, Vector, generator_degree}
use Rattle.sf_algebra.proofs.Basics.Filters.{AllByRecursion-filter_keeps}
use Rattle.sf_algebra.proofs.Vectors.Rows.{row_at-past, row_combination-nil}
use Rattle.sf_groebner.specs.Criterion.{IsForRows, IsPair, s_vector}
use Rattle.sf_groebner.specs.MinimalGenerators.{IsInSum}
use Rattle.sf_groebner.specs.Spans.{InSpan}
use Rattle.sf_groebner.proofs.Constructions.LeadDivisors.{is_divided-lead_places, lead_places}
use Rattle.sf_groebner.proofs.PairTheorems.LeadMultiples.{IsModule}
use Rattle.sf_groebner.proofs.PairTheorems.Schreyer.{IsSpanned, IsSpanned-module}
use Rattle.sf_matrix.specs.KeptNumbers.{SpansInto, vector_at}
use Rattle.sf_minimal.specs.Numbers.{DecideRows, has_pivot, pivot_place}
use Rattle.sf_minimal.specs.Steps.{HasFreeRow, IsFilled, IsLowBasis, IsPassedOver, pair_degree}
use Rattle.sf_minimal.proofs.ChosenRows.{chosen, chosen-module}
use Rattle.sf_minimal.proofs.Complete.{IsDone, relation-inside}
use Rattle.sf_minimal.proofs.ConstantTerms.{IsNotConstant, constants-module, constants-none}
use Rattle.sf_minimal.proofs.Dividing.{IsDone-other, constants-of_degree, monic_rows, of_degree, pair-inside}
use Rattle.sf_minimal.proofs.PivotRows.{pivot-in_sum}
use Rattle.sf_minimal.proofs.ProperPairs.{proper_pairs}
use Rattle.sf_minimal.proofs.States.{HasAllSpanned, IsFinished, IsState, step-value, step-within, vector-inside}
use Rattle.sf_minimal.proofs.ToPivots.{HasSpannedConstants, HasSpannedRelations, in_sum-pivot}
use Rattle.sf_minimal.proofs.VectorRows.{row_at-vector_at}

module _ (m base pivots : Matrix) (prime : IsOverField m.ring) (positive : IsRing m.ring) (basis : IsLowBasis m)
    (matrix : IsMatrix m) (base_matrix : IsMatrix base) (pivot_matrix : IsMatrix pivots) (above : 1 < m.ring.modulus)
    (rings : base.ring ≡ m.ring) (targets : base.target ≡ m.target) (inside : SpansInto base m)
    (state : IsState m base positive pivots (length base.rows) (length m.rows) 0) where
  abbrev n : ℕ
  n = length m.rows

  module _ (d : ℤ) (free : HasFreeRow m (lead_places pivots.rows) d) where
    -- the constant terms at rows of degree d are spanned
    abbrev Has : List (Term Place) → Type 0
    Has c = HasSpannedConstants m pivots.rows (of_degree m d) c

    has_module : IsModule m.ring.modulus Has
    has_module =
        chosen-module (of_degree m d) m.ring.modulus (HasAllSpanned m pivots.rows)
        (constants-module m.ring.modulus n (IsSpanned m.ring pivots.rows) (IsSpanned-module m.ring positive pivots.rows))

    has_none : IsSpanned m.ring pivots.rows []
    has_none = (IsSpanned-module m.ring positive pivots.rows).has_none

    has_others : (c : List (Term Place)) → AllByRecursion IsNotConstant c → Has c
    has_others c h =
        subst (IsSpanned m.ring pivots.rows)
        (sym (constants-none n (chosen (of_degree m d) c)
        (AllByRecursion-filter_keeps IsNotConstant (λ (t : Term Place). of_degree m d t.at.position) c h)))
        has_none

    done : (v : Vector) → InSpan m v → IsFinished m pivots.rows v.degree v.terms → IsDone m Has v.degree v.terms
    done v v_inside h =
        ⊎_elim
        (λ (e : int_eq d v.degree ≡ true).
        ⊎_elim
        (λ (own : IsDone m (HasAllSpanned m pivots.rows) v.degree v.terms). record {
          steps = own.steps;
          divided = own.divided;
          inside = subst (IsSpanned m.ring pivots.rows)
              (sym (constants-of_degree m prime matrix basis d v.degree own.steps own.divided.homogeneous e)) own.inside;
        })
        (λ (filled : IsFilled m pivots.rows v.degree).
        absurd (filled (subst (HasFreeRow m (lead_places pivots.rows)) ((Decides-int_eq d v.degree).0 e) free))) h)
        (λ (e : int_eq d v.degree ≡ false).
        IsDone-other m prime matrix basis (IsSpanned m.ring pivots.rows) has_none d v v_inside e)
        (cases_Bool (int_eq d v.degree))

    pair_done : (i j : ℕ) → IsPair m.rows i j
        → IsDone m Has (pair_degree m i j) (s_vector m.ring m.rows i j) ⊎ IsPassedOver m.rows i j
    pair_done i j pair =
        ⊎_elim
        (λ (finished : IsFinished m pivots.rows (pair_degree m i j) (s_vector m.ring m.rows i j)).
        let first : i < n = omega (arith, pair.earlier, pair.later) in
        inl (done (record { degree = pair_degree m i j; terms = s_vector m.ring m.rows i j })
        (pair-inside m prime matrix basis i j first pair.later pair.positions) finished))
        (λ (passed : IsPassedOver m.rows i j). inr passed)
        (state.pairs i j pair (inl pair.later))

    row_done : (l : ℕ) → (q : List (Term Place)) × AllByRecursion (IsForRows m.rows) q
        × (row_combination m.ring m.rows q ≡ row_at base.rows l) × Has q
    row_done l =
        ⊎_elim
        (λ (within : l < length base.rows).
        let v = vector_at base.rows l in
        let own = done v (inside v (vector-inside base (subst IsRing (sym rings) positive) base_matrix l within)) (state.rows l within) in (
          own.steps,
          step-within m base positive _ own.steps own.divided.homogeneous,
          step-value m base positive _ _ own.steps own.divided ∙ sym (row_at-vector_at base.rows l),
          own.inside,
        ))
        (λ (past : length base.rows ≤ l). (
          [],
          tt,
          row_combination-nil m.ring positive.modulus m.rows ∙ sym (row_at-past base.rows l past),
          has_module.has_none,
        ))
        (cases_lt l (length base.rows))

    spanned : HasSpannedRelations m base.rows pivots.rows (of_degree m d)
    spanned =
        relation-inside m positive Has has_module (monic_rows m prime matrix basis)
        (proper_pairs m.rows basis.reduced.monic basis.reduced.apart) has_others pair_done base.rows row_done

  pub decisions : DecideRows m (InSpan base) pivots.rows
  decisions i within = (
    pivot-in_sum m base pivots positive matrix base_matrix rings targets basis.reduced.sorted state.ring pivot_matrix state.are_pivots state.columns state.sound i within,
    λ h. ⊎_elim (λ (e : has_pivot pivots.rows n i ≡ true). e)
        (λ (e : has_pivot pivots.rows n i ≡ false). of_free e h) (cases_Bool (has_pivot pivots.rows n i)),
  )
    where
      of_free : has_pivot pivots.rows n i ≡ false → IsInSum m.ring (take i m.rows) (InSpan base) (vector_at m.rows i)
          → IsTrue (has_pivot pivots.rows n i)
      of_free e h =
          let d = generator_degree (row_degrees m) i in
          let free : HasFreeRow m (lead_places pivots.rows) d =
          (i, within, refl, sym (is_divided-lead_places pivots.rows (pivot_place n i) state.are_pivots.monic) ∙ e) in
          in_sum-pivot m base pivots positive above matrix rings state.ring pivot_matrix state.are_pivots (of_degree m d)
          (spanned d free) i within ((Decides-int_eq d d).1 refl) h
