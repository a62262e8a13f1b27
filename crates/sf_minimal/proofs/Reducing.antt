-- A division whose steps come in any order: what is left and the combination of the rows with the steps give the vector.
use Rattle.std.proofs.Common.{◌≡◌, List, [], ◌∷◌, ◌++◌, sym, ◌∙◌, ap, subst, ℤ}
use Rattle.std.specs.declared.cmp.Ordering.TheVariants.{Less}
use Rattle.std.specs.List.{AllByRecursion}
use Rattle.sf_algebra.specs.Matrices.{Matrix, IsMatrix, degrees_of}
use Rattle.sf_algebra.specs.MatrixOperations.{row_at, row_combination}
use Rattle.sf_algebra.specs.Multiples.{negative}
use Rattle.sf_algebra.specs.Rings.{IsOverField, IsRing}
use Rattle.sf_algebra.specs.Terms.{IsNonzeroResidue, Term}
use Rattle.sf_algebra.specs.VectorOperations.{row_sum}
use Rattle.sf_algebra.specs.Vectors.{IsCanonicalRow, IsHomogeneous, IsTermOfDegree, Place, Vector, place_cmp}
use Rattle.sf_algebra.proofs.Basics.Lists.{AllByRecursion-append, AllByRecursion-weaken}
use Rattle.sf_algebra.proofs.Monomials.Orders.{place_cmp_total}
use Rattle.sf_algebra.proofs.Monomials.Weights.{field_ring}
use Rattle.sf_algebra.proofs.Multiplying.Keys.{place_keys}
use Rattle.sf_algebra.proofs.Terms.Negatives.{EachPlace-negative}
use Rattle.sf_algebra.proofs.Terms.Normal.{EachPlace, EachPlace-add}
use Rattle.sf_algebra.proofs.Vectors.HomogeneousVectors.{IsVector-nil}
use Rattle.sf_algebra.proofs.Vectors.RowSums.{row_sum-assoc, row_sum-comm, row_sum-nil}
use Rattle.sf_algebra.proofs.Vectors.Rows.{IsCanonical-row_combination, row_combination-append, row_combination-nil, row_combination-one}
use Rattle.sf_groebner.specs.Criterion.{HasMultipleBelow}
use Rattle.sf_groebner.specs.Divisions.{AreBelow, IsDivided, step, step_factor, step_tail}
use Rattle.sf_groebner.specs.ReducedBases.{IsMonic}
use Rattle.sf_groebner.proofs.Basics.Items.{AllByRecursion-both}
use Rattle.sf_groebner.proofs.Constructions.MonicVectors.{IsMonicVector, IsTermOfDegree-step, lead_multiple-step, multiple_at}
use Rattle.sf_groebner.proofs.Uniqueness.Subtractions.{add-negative_back}
use Rattle.sf_reduce.proofs.DivisionLoops.{multiple-negative_factor}
use Rattle.sf_minimal.specs.Spaces.{IsTakenAway}

pub record IsReducing (m : Matrix) (d : ℤ) (terms left steps : List (Term Place)) : Type 0 where
  pub homogeneous : IsHomogeneous m.ring.weights (degrees_of m.rows) d steps
  pub below : (b : Place) → AreBelow m.ring.weights b terms
      → AreBelow m.ring.weights b left × AllByRecursion (HasMultipleBelow m.ring.weights m.rows b) steps
  pub sum : row_sum m.ring left (row_combination m.ring m.rows steps) ≡ terms

module _ (m : Matrix) (prime : IsOverField m.ring) (is_matrix : IsMatrix m)
    (monic : AllByRecursion (λ (v : Vector). IsMonic v.terms) m.rows) (d : ℤ) (terms : List (Term Place)) where
  positive : IsRing m.ring
  positive = field_ring prime

  monic_vectors : AllByRecursion (IsMonicVector m.ring m.target) m.rows
  monic_vectors = AllByRecursion-both _ _ _ (λ v h k. record { vector = h; monic = k }) m.rows is_matrix monic

  pub IsReducing-start : IsCanonicalRow m.ring terms → IsReducing m d terms terms []
  IsReducing-start canonical = record {
    homogeneous = tt;
    below = λ b h. (h, tt);
    sum = ap (row_sum m.ring terms) (row_combination-nil m.ring positive.modulus m.rows)
        ∙ row_sum-nil m.ring positive.modulus terms canonical;
  }

  -- where nothing is left
  pub IsReducing-end : (left steps : List (Term Place)) → left ≡ [] → IsReducing m d terms left steps
      → IsDivided m.ring m.target m.rows d terms [] steps
  IsReducing-end left steps none h = record {
    vector = IsVector-nil m.ring m.target d;
    homogeneous = h.homogeneous;
    reduced = tt;
    below = λ b above. (tt, (h.below b above).1);
    sum = ap (λ us. row_sum m.ring us (row_combination m.ring m.rows steps)) (sym none) ∙ h.sum;
  }

  -- one step more, at a place of what is left
  module _ (left new steps : List (Term Place)) (t s : Term Place) (h : IsReducing m d terms left steps)
      (canonical : IsCanonicalRow m.ring left) (residue : IsNonzeroResidue m.ring.modulus t)
      (degree : IsTermOfDegree m.ring.weights m.target d t) (found : (P : Place → Type 0) → EachPlace P left → P t.at)
      (taken : IsTakenAway m left new t s) where
    abbrev taken_multiple : List (Term Place)
    taken_multiple = row_combination m.ring m.rows (step m.rows taken.row t ∷ [])

    taken_shape : taken_multiple ≡ t ∷ step_tail m.ring m.rows taken.row t
    taken_shape = multiple_at m.ring m.target m.rows monic_vectors prime taken.row taken.within t residue taken.divides

    taken_canonical : IsCanonicalRow m.ring taken_multiple
    taken_canonical = IsCanonical-row_combination m.ring positive.modulus m.rows (step m.rows taken.row t ∷ [])

    new_value : new ≡ row_sum m.ring (negative m.ring.modulus taken_multiple) left
    new_value =
        taken.added
        ∙ ap (λ us. row_sum m.ring us left)
        (multiple-negative_factor (place_keys m.ring.weights) m.ring.modulus positive.modulus (step_factor m.rows taken.row t).at
        t.coefficient residue.1 (row_at m.rows taken.row)
        ∙ ap (negative m.ring.modulus) (sym (row_combination-one m.ring positive.modulus m.rows (step m.rows taken.row t))))

    sums : row_sum m.ring new (row_combination m.ring m.rows (steps ++ s ∷ [])) ≡ terms
    sums =
        let old = row_combination m.ring m.rows steps in
        let away = negative m.ring.modulus taken_multiple in
        ap (λ (u : Term Place). row_sum m.ring new (row_combination m.ring m.rows (steps ++ u ∷ []))) taken.step
        ∙ ap (row_sum m.ring new) (row_combination-append m.ring positive.modulus m.rows steps (step m.rows taken.row t ∷ []))
        ∙ (λ i. row_sum m.ring ((new_value ∙ row_sum-comm m.ring positive.modulus away left) i) (row_sum-comm m.ring positive.modulus old taken_multiple i))
        ∙ sym (row_sum-assoc m.ring positive.modulus (row_sum m.ring left away) taken_multiple old)
        ∙ ap (λ us. row_sum m.ring us old)
        (add-negative_back (place_keys m.ring.weights) m.ring.modulus positive.modulus left taken_multiple canonical taken_canonical)
        ∙ h.sum

    bounded : (b : Place) → AreBelow m.ring.weights b terms
        → AreBelow m.ring.weights b new × AllByRecursion (HasMultipleBelow m.ring.weights m.rows b) (steps ++ s ∷ [])
    bounded b above =
        let weights = m.ring.weights in
        let old = h.below b above in
        let first : place_cmp weights t.at b ≡ Less = found (λ k. place_cmp weights k b ≡ Less) old.0 in
        let whole : IsCanonicalRow m.ring (t ∷ step_tail m.ring m.rows taken.row t) =
        subst (IsCanonicalRow m.ring) taken_shape taken_canonical in
        let multiple : AreBelow weights b taken_multiple =
        subst (AreBelow weights b) (sym taken_shape) (
          first,
          AllByRecursion-weaken _ _ (λ u less. (place_cmp_total weights).trans u.at t.at b less first)
              (step_tail m.ring m.rows taken.row t) whole.descending.0,
        ) in (
          subst (AreBelow weights b) (sym new_value)
              (EachPlace-add (λ k. place_cmp weights k b ≡ Less) (place_cmp weights) m.ring.modulus
              (negative m.ring.modulus taken_multiple) left
              (EachPlace-negative (λ k. place_cmp weights k b ≡ Less) m.ring.modulus taken_multiple multiple) old.0),
          AllByRecursion-append (HasMultipleBelow weights m.rows b) steps (s ∷ []) old.1 (
            subst (HasMultipleBelow weights m.rows b) (sym taken.step)
                (taken.within, ap (λ k. place_cmp weights k b) (lead_multiple-step m.rows taken.row t taken.divides) ∙ first),
            tt,
          ),
        )

    pub IsReducing-step : IsReducing m d terms new (steps ++ s ∷ [])
    IsReducing-step = record {
      homogeneous = AllByRecursion-append (IsTermOfDegree m.ring.weights (degrees_of m.rows) d) steps (s ∷ []) h.homogeneous (
        subst (IsTermOfDegree m.ring.weights (degrees_of m.rows) d) (sym taken.step)
            (IsTermOfDegree-step m.ring m.target m.rows monic_vectors taken.row taken.within d t taken.divides degree),
        tt,
      );
      below = bounded;
      sum = sums;
    }
