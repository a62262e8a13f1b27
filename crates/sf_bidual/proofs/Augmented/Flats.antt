-- What stands in one column goes nowhere along its row exactly where dh of it is zero.
use Rattle.std.proofs.Common.{◌≡◌, ◌<◌, ℕ, zero, suc, List, [], sym, ◌∙◌, ap, subst, arith, ℤ, pos, ◌-ℤ◌}
use Rattle.sf_algebra.specs.MatrixOperations.{part_terms, row_combination}
use Rattle.sf_algebra.specs.Terms.{Term}
use Rattle.sf_algebra.specs.VectorOperations.{row_sum}
use Rattle.sf_algebra.specs.Vectors.{Place}
use Rattle.sf_algebra.proofs.Basics.Lists.{AllByRecursion-weaken}
use Rattle.sf_algebra.proofs.Operators.Groups.{map-zero, unit_first}
use Rattle.sf_algebra.proofs.Vectors.Rows.{IsCanonical-row_combination, row_combination-nil}
use Rattle.sf_algebra.proofs.Vectors.RowSums.{row_sum-nil, row_sum-nil_first}
use Rattle.sf_algebra.proofs.Vectors.VectorGroups.{vectors_of_degree}
use Rattle.sf_algebra.proofs.Vectors.VectorProps.{vector_unique}
use Rattle.sf_groebner.proofs.PartsOfBases.PartLeads.{part_terms-before}
use Rattle.sf_bicomplex.specs.Bicomplexes.{Bicomplex, IsBicomplex}
use Rattle.sf_bicomplex.specs.TotalColumns.{column_start, place, total_degrees}
use Rattle.sf_bicomplex.proofs.Columns.ColumnParts.{part_terms-behind}
use Rattle.sf_bicomplex.proofs.TotalComplexes.ImageColumns.{image-columns}
use Rattle.sf_bicomplex.proofs.TotalComplexes.TotalGroups.{total-differential, total_column, total_group, total_image}
use Rattle.sf_bicomplex.proofs.TotalComplexes.TotalMaps.{dh-nothing}

module _ (b : Bicomplex) (h : IsBicomplex b) (d : ℤ) where
  -- the terms of a column
  abbrev pub column_terms : ℤ → ℕ → List (Term Place) → List (Term Place)
  column_terms n p ts = part_terms (column_start b n (suc p)) (column_start b n p) ts

  -- a vector of the next higher column has none there, nor one of the next lower
  pub higher_none : (n : ℤ) (p : ℕ) (v : (vectors_of_degree b.ring h.is_ring.modulus (total_degrees b n) d).V)
      → (total_group b h n d).column (suc p) v → column_terms n p v.0 ≡ []
  higher_none n p v k =
      part_terms-before (column_start b n (suc p)) (column_start b n p) v.0
      (AllByRecursion-weaken _ _ (λ t e. e.1) v.0 k)

  pub lower_none : (n : ℤ) (p : ℕ) (v : (vectors_of_degree b.ring h.is_ring.modulus (total_degrees b n) d).V)
      → (total_group b h n d).column p v → column_terms n (suc p) v.0 ≡ []
  lower_none n p v k =
      part_terms-behind (column_start b n (suc (suc p))) (column_start b n (suc p)) v.0
      (AllByRecursion-weaken _ _ (λ t e. e.0) v.0 k)

  module _ (t m : ℤ) (lower : m ≡ t -ℤ pos 1) where
    abbrev pub dv_terms : ℕ → List (Term Place) → List (Term Place)
    dv_terms p us = row_combination b.ring (b.vertical p (t -ℤ pos p)).rows us

    abbrev pub dh_terms : ℕ → List (Term Place) → List (Term Place)
    dh_terms p us = row_combination b.ring (b.horizontal p (t -ℤ pos p)).rows us

    pub no_dv : (p : ℕ) → dv_terms p [] ≡ []
    no_dv p = row_combination-nil b.ring h.is_ring.modulus (b.vertical p (t -ℤ pos p)).rows

    pub no_dh : (p : ℕ) → dh_terms p [] ≡ []
    no_dh p = row_combination-nil b.ring h.is_ring.modulus (b.horizontal p (t -ℤ pos p)).rows

    pub image_terms : (p : ℕ) → p < b.columns
        → (v : (vectors_of_degree b.ring h.is_ring.modulus (total_degrees b t) d).V)
        → column_terms m p (total_image b h t m lower d v).0
        ≡ row_sum b.ring (dv_terms p (column_terms t p v.0)) (dh_terms (suc p) (column_terms t (suc p) v.0))
    image_terms p inside v = image-columns b h t m lower d b.columns p inside v.0 v.1

    -- the image of a vector of the column p: dv there, and dh in the next lower one
    pub image_here : (p : ℕ) → p < b.columns
        → (v : (vectors_of_degree b.ring h.is_ring.modulus (total_degrees b t) d).V)
        → (total_group b h t d).column p v
        → column_terms m p (total_image b h t m lower d v).0 ≡ dv_terms p (column_terms t p v.0)
    image_here p inside v k =
        image_terms p inside v
        ∙ ap (row_sum b.ring (dv_terms p (column_terms t p v.0))) (ap (dh_terms (suc p)) (lower_none t p v k) ∙ no_dh (suc p))
        ∙ row_sum-nil b.ring h.is_ring.modulus (dv_terms p (column_terms t p v.0))
        (IsCanonical-row_combination b.ring h.is_ring.modulus (b.vertical p (t -ℤ pos p)).rows (column_terms t p v.0))

    pub image_left : (p : ℕ) → suc p < b.columns
        → (v : (vectors_of_degree b.ring h.is_ring.modulus (total_degrees b t) d).V)
        → (total_group b h t d).column (suc p) v
        → column_terms m p (total_image b h t m lower d v).0 ≡ dh_terms (suc p) (column_terms t (suc p) v.0)
    image_left p inside v k =
        image_terms p (omega arith) v
        ∙ ap (λ us. row_sum b.ring us (dh_terms (suc p) (column_terms t (suc p) v.0)))
        (ap (dv_terms p) (higher_none t p v k) ∙ no_dv p)
        ∙ row_sum-nil_first b.ring h.is_ring.modulus (dh_terms (suc p) (column_terms t (suc p) v.0))
        (IsCanonical-row_combination b.ring h.is_ring.modulus (b.horizontal (suc p) (t -ℤ pos (suc p))).rows
        (column_terms t (suc p) v.0))

    pub flat_there : (p : ℕ) → p < b.columns
        → (v : (vectors_of_degree b.ring h.is_ring.modulus (total_degrees b t) d).V)
        → (total_group b h t d).column p v → (total_group b h m d).column p (total_image b h t m lower d v)
        → dh_terms p (column_terms t p v.0) ≡ []
    flat_there zero inside v k image =
        dh-nothing b h t m lower d (column_terms t zero v.0) ((total_column b h t d zero inside).taken v).1
    flat_there (suc p) inside v k image =
        sym (image_left p inside v k) ∙ higher_none m p (total_image b h t m lower d v) image

    pub flat_back : (p : ℕ) → p < b.columns
        → (v : (vectors_of_degree b.ring h.is_ring.modulus (total_degrees b t) d).V)
        → (total_group b h t d).column p v → dh_terms p (column_terms t p v.0) ≡ []
        → (total_group b h m d).column p (total_image b h t m lower d v)
    flat_back zero inside v k none =
        let Y = total_group b h t d in
        let W = total_group b h m d in
        let image = total_image b h t m lower d v in
        let parts = W.highest zero image
        ((total-differential b h t m lower d).keeps 1 v (Y.column_below zero v k)) in
        let same : parts.0 ≡ image =
        sym (W.group.unit parts.0) ∙ ap (W.group.plus parts.0) (sym (W.nothing_lower parts.1 parts.3)) ∙ parts.4 in
        subst (W.column zero) same parts.2
    flat_back (suc p) inside v k none =
        let W = total_group b h m d in
        let image = total_image b h t m lower d v in
        let before : p < b.columns = omega arith in
        let C = total_column b h m d p before in
        let parts = (total-differential b h t m lower d).steps p v k in
        let a = parts.0 in
        let c = parts.1 in
        let gone : C.taken image ≡ C.group.zero =
        vector_unique b.ring (place b m p).target d _ _ (image_left p inside v k ∙ none) in
        let first : C.taken a ≡ C.group.zero =
        vector_unique b.ring (place b m p).target d _ _ (higher_none m p a parts.2) in
        let second : C.taken c ≡ C.group.zero =
        sym (unit_first C.group (C.taken c))
        ∙ ap (λ y. C.group.plus y (C.taken c)) (sym first)
        ∙ sym (C.taken_map.to_plus a c)
        ∙ ap C.taken parts.4
        ∙ gone in
        let nothing : c ≡ W.group.zero =
        sym (C.put_taken c parts.3) ∙ ap C.put second ∙ map-zero C.group W.group C.put C.put_map in
        let same : a ≡ image =
        sym (W.group.unit a) ∙ ap (W.group.plus a) (sym nothing) ∙ parts.4 in
        subst (W.column (suc p)) same parts.2
