-- What is set into the highest column is in the part below the two highest ones exactly where it is dv of an element
-- there, and dh of this and dv of one in the next lower column cancel.
use Rattle.std.proofs.Common.{◌≡◌, ◌<◌, ℕ, suc, List, [], sym, ◌∙◌, ap, subst, arith, ℤ, pos, ◌-ℤ◌}
use Rattle.sf_algebra.specs.Matrices.{Matrix}
use Rattle.sf_algebra.specs.MatrixOperations.{row_combination}
use Rattle.sf_algebra.specs.VectorOperations.{row_sum}
use Rattle.sf_algebra.proofs.Operators.Groups.{difference-equal, difference-plus, difference-zero, map-difference, map-zero, minus-difference, unit_first}
use Rattle.sf_algebra.proofs.Vectors.RowSums.{row_sum-comm, row_sum-nil}
use Rattle.sf_algebra.proofs.Vectors.Rows.{IsCanonical-row_combination}
use Rattle.sf_algebra.proofs.Vectors.VectorGroups.{vectors_of_degree}
use Rattle.sf_algebra.proofs.Vectors.VectorProps.{vector_unique}
use Rattle.sf_chase.specs.ColumnPages.{IsInPart}
use Rattle.sf_chase.specs.Columns.{ColumnOf, Columned}
use Rattle.sf_bicomplex.specs.Bicomplexes.{Bicomplex, IsBicomplex}
use Rattle.sf_bicomplex.specs.TotalColumns.{column_start, place, total_degrees}
use Rattle.sf_bicomplex.proofs.Columns.ColumnParts.{part_terms-behind}
use Rattle.sf_bicomplex.proofs.TotalComplexes.TotalGroups.{total-differential, total_column, total_group, total_image}
use Rattle.sf_bidual.proofs.Augmented.Augmentations.{IsAugmentedBy, all_below, in_place, inside, set, zero_after}
use Rattle.sf_bidual.proofs.Augmented.Flats.{column_terms, dh_terms, dv_terms, higher_none, image_here, image_left, image_terms, no_dh}
use Rattle.sf_bidual.proofs.Augmented.FreeTotals.{relation-zero, zero-relation}

-- what stands up to a column, and is zero there, stands below it
next_below : {R : Type 0} (X : Columned R) (j : ℕ) (C : ColumnOf X j) (v : X.group.V) → X.below (suc j) v
    → C.taken v ≡ C.group.zero → X.below j v
next_below X j C v stands none =
    let parts = X.highest j v stands in
    let a = parts.0 in
    let c = parts.1 in
    let first : C.taken a ≡ C.group.zero =
    sym (C.group.unit (C.taken a))
    ∙ ap (C.group.plus (C.taken a)) (sym (C.taken_below c parts.3))
    ∙ sym (C.taken_map.to_plus a c)
    ∙ ap C.taken parts.4
    ∙ none in
    let gone : a ≡ X.group.zero =
    sym (C.put_taken a parts.2) ∙ ap C.put first ∙ map-zero C.group X.group C.put C.put_map in
    let same : c ≡ v = sym (unit_first X.group c) ∙ ap (λ y. X.group.plus y c) (sym gone) ∙ parts.4 in
    subst (X.below j) same parts.3

module _ (b : Bicomplex) (h : IsBicomplex b) (p : ℕ) (degrees : ℤ → List ℤ) (augmentation map : ℤ → Matrix)
    (k : IsAugmentedBy b (suc p) degrees augmentation map) (above t below : ℤ) (up : t ≡ above -ℤ pos 1)
    (lower : below ≡ t -ℤ pos 1) (d : ℤ) where
  within : p < b.columns
  within = let columns = k.columns in omega arith

  abbrev next : suc p < b.columns
  next = inside b h (suc p) degrees augmentation map k d

  abbrev X : Columned ⊥
  X = total_group b h above d

  abbrev Y : Columned ⊥
  Y = total_group b h t d

  abbrev W : Columned ⊥
  W = total_group b h below d

  abbrev forth : X.group.V → Y.group.V
  forth = total_image b h above t up d

  abbrev on : Y.group.V → W.group.V
  on = total_image b h t below lower d

  -- the two columns
  abbrev C : ColumnOf Y (suc p)
  C = total_column b h t d (suc p) next

  abbrev D : ColumnOf Y p
  D = total_column b h t d p within

  abbrev placed : (vectors_of_degree b.ring h.is_ring.modulus (degrees (t -ℤ pos (suc p))) d).V → Y.group.V
  placed = set b h (suc p) degrees augmentation map k d t

  abbrev pub InLowerPart : (vectors_of_degree b.ring h.is_ring.modulus (degrees (t -ℤ pos (suc p))) d).V → Type 0
  InLowerPart m =
      (u : (vectors_of_degree b.ring h.is_ring.modulus (place b above (suc p)).target d).V)
      × (w : (vectors_of_degree b.ring h.is_ring.modulus (place b above p).target d).V)
      × (row_combination b.ring (b.vertical (suc p) (above -ℤ pos (suc p))).rows u.0
      ≡ row_combination b.ring (augmentation (t -ℤ pos (suc p))).rows m.0)
      × (row_sum b.ring (row_combination b.ring (b.horizontal (suc p) (above -ℤ pos (suc p))).rows u.0)
      (row_combination b.ring (b.vertical p (above -ℤ pos p)).rows w.0)
      ≡ [])

  module _ (m : (vectors_of_degree b.ring h.is_ring.modulus (degrees (t -ℤ pos (suc p))) d).V) where
    abbrev em : Y.group.V
    em = placed m

    -- in the two columns it is what it was set as, and 0
    em_here : C.taken em ≡ in_place b h (suc p) degrees augmentation map k d t m
    em_here = C.taken_put (in_place b h (suc p) degrees augmentation map k d t m)

    em_below : D.taken em ≡ D.group.zero
    em_below =
        vector_unique b.ring (place b t p).target d _ _
        (higher_none b h d t p em (C.put_column (in_place b h (suc p) degrees augmentation map k d t m)))

    pub lower-there : IsInPart X Y W forth on placed p m → InLowerPart m
    lower-there part =
        let c = part.0 in
        let a = part.2.0 in
        let rest = Y.group.plus em (Y.group.minus c) in
        let image : rest ≡ forth a =
        difference-equal Y.group rest (forth a)
        (vector_unique b.ring (total_degrees b t) d _ _ (relation-zero b h k.free t _ part.2.2)) in
        let upper = total_column b h above d (suc p) next in
        let lowered = total_column b h above d p within in
        let here : C.taken rest ≡ in_place b h (suc p) degrees augmentation map k d t m =
        map-difference Y.group C.group C.taken C.taken_map em c
        ∙ (λ i. C.group.plus (em_here i)
        (C.group.minus (C.taken_below c (Y.rises p (suc p) (omega arith) c part.1.0) i)))
        ∙ difference-zero C.group (in_place b h (suc p) degrees augmentation map k d t m) in
        let under : D.taken rest ≡ D.group.zero =
        map-difference Y.group D.group D.taken D.taken_map em c
        ∙ (λ i. D.group.plus (em_below i) (D.group.minus (D.taken_below c part.1.0 i)))
        ∙ difference-zero D.group D.group.zero in
        let nothing : column_terms b h d above (suc (suc p)) a.0 ≡ [] =
        part_terms-behind (column_start b above (suc (suc (suc p)))) (column_start b above (suc (suc p))) a.0
        (all_below b h (suc p) degrees augmentation map k d above a) in
        let first : row_combination b.ring (b.vertical (suc p) (above -ℤ pos (suc p))).rows (upper.taken a).0
        ≡ row_combination b.ring (augmentation (t -ℤ pos (suc p))).rows m.0 =
        sym (row_sum-nil b.ring h.is_ring.modulus _
        (IsCanonical-row_combination b.ring h.is_ring.modulus (b.vertical (suc p) (above -ℤ pos (suc p))).rows
        (upper.taken a).0))
        ∙ ap (row_sum b.ring (dv_terms b h d above t up (suc p) (upper.taken a).0))
        (sym (ap (dh_terms b h d above t up (suc (suc p))) nothing ∙ no_dh b h d above t up (suc (suc p))))
        ∙ sym (image_terms b h d above t up (suc p) next a)
        ∙ ap (λ v. (C.taken v).0) (sym image)
        ∙ ap (λ v. v.0) here in
        let last : row_sum b.ring (dh_terms b h d above t up (suc p) (upper.taken a).0)
        (dv_terms b h d above t up p (lowered.taken a).0) ≡ [] =
        row_sum-comm b.ring h.is_ring.modulus (dh_terms b h d above t up (suc p) (upper.taken a).0)
        (dv_terms b h d above t up p (lowered.taken a).0)
        ∙ sym (image_terms b h d above t up p within a)
        ∙ ap (λ v. (D.taken v).0) (sym image)
        ∙ ap (λ v. v.0) under in
        (upper.taken a, lowered.taken a, first, last)

    pub lower-back : InLowerPart m → on em ≡ W.group.zero → IsInPart X Y W forth on placed p m
    lower-back found cycle =
        let upper = total_column b h above d (suc p) next in
        let lowered = total_column b h above d p within in
        let u = upper.put found.0 in
        let w = lowered.put found.1 in
        let a = X.group.plus u w in
        let differential = total-differential b h above t up d in
        let c = Y.group.plus em (Y.group.minus (forth a)) in
        let sum : forth a ≡ Y.group.plus (forth u) (forth w) = differential.map.to_plus u w in
        let w_below : Y.below (suc p) (forth w) =
        differential.keeps (suc p) w (X.column_below p w (lowered.put_column found.1)) in
        -- the highest column of the image
        let here : C.taken (forth a) ≡ C.taken em =
        ap C.taken sum
        ∙ C.taken_map.to_plus (forth u) (forth w)
        ∙ ap (C.group.plus (C.taken (forth u))) (C.taken_below (forth w) w_below)
        ∙ C.group.unit (C.taken (forth u))
        ∙ vector_unique b.ring (place b t (suc p)).target d _ _
        (image_here b h d above t up (suc p) next u (upper.put_column found.0)
        ∙ ap (λ v. dv_terms b h d above t up (suc p) v.0) (upper.taken_put found.0)
        ∙ found.2)
        ∙ sym em_here in
        -- the next lower one
        let under : D.taken (forth a) ≡ D.group.zero =
        ap D.taken sum
        ∙ D.taken_map.to_plus (forth u) (forth w)
        ∙ vector_unique b.ring (place b t p).target d _ _
        ((λ i. row_sum b.ring
        ((image_left b h d above t up p next u (upper.put_column found.0)
        ∙ ap (λ v. dh_terms b h d above t up (suc p) v.0) (upper.taken_put found.0)) i)
        ((image_here b h d above t up p within w (lowered.put_column found.1)
        ∙ ap (λ v. dv_terms b h d above t up p v.0) (lowered.taken_put found.1)) i))
        ∙ found.3) in
        let c_here : C.taken c ≡ C.group.zero =
        map-difference Y.group C.group C.taken C.taken_map em (forth a)
        ∙ ap (λ y. C.group.plus (C.taken em) (C.group.minus y)) here
        ∙ C.group.inverse (C.taken em) in
        let c_under : D.taken c ≡ D.group.zero =
        map-difference Y.group D.group D.taken D.taken_map em (forth a)
        ∙ (λ i. D.group.plus (em_below i) (D.group.minus (under i)))
        ∙ difference-zero D.group D.group.zero in
        let stands : Y.below p c =
        next_below Y p D c
        (next_below Y (suc p) C c (all_below b h (suc p) degrees augmentation map k d t c) c_here) c_under in
        let closed : on c ≡ W.group.zero =
        map-difference Y.group W.group on (total-differential b h t below lower d).map em (forth a)
        ∙ (λ i. W.group.plus (cycle i)
        (W.group.minus (zero_after b h (suc p) degrees augmentation map k d above t below up lower a i)))
        ∙ difference-zero W.group W.group.zero in
        let less : Y.group.plus em (Y.group.minus c) ≡ forth a =
        ap (Y.group.plus em) (minus-difference Y.group em (forth a))
        ∙ Y.group.comm em (Y.group.plus (forth a) (Y.group.minus em))
        ∙ difference-plus Y.group (forth a) em in (
          c,
          (stands, zero-relation b h k.free below _ (ap (λ v. v.0) closed)),
          (
            a,
            tt,
            zero-relation b h k.free t _
                (ap (λ v. (Y.group.plus v (Y.group.minus (forth a))).0) less
                ∙ ap (λ v. v.0) (Y.group.inverse (forth a))),
          ),
        )
