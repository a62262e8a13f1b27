-- The differential of a page in the coordinates of two columns is that by whole elements, and so a map of classes.
use Rattle.std.proofs.Common.{ℕ, suc, sym, subst}
use Rattle.sf_algebra.specs.Groups.{IsSub, Mod, IsWithin}
use Rattle.sf_algebra.proofs.Operators.Congruences.{Mod-map, Mod-refl, Mod-sym, Mod-trans, Mod-within}
use Rattle.sf_algebra.proofs.Operators.Correspondences.{IsCorrespondence, IsMapOfClasses}
use Rattle.sf_algebra.proofs.Operators.GroupMaps.{IsMap-after}
use Rattle.sf_algebra.proofs.Operators.Groups.{map-difference}
use Rattle.sf_chase.specs.ColumnPages.{ColumnBoundaries, ColumnCycles, FallsBelow, HasColumnDifferential}
use Rattle.sf_chase.specs.Columns.{ColumnOf, Columned, IsColumnComplex, IsDifferential}
use Rattle.sf_chase.specs.Filtrations.{HasDifferential, PageBoundaries}
use Rattle.sf_chase.proofs.Columns.Filtered.{column-part, complex-filtered, differential-filtered, filtered_by, part-column, put_taken-part, relations-part}
use Rattle.sf_chase.proofs.Columns.Pages.{ColumnBoundaries-sub, FallsBelow-sub, below-falls, column_boundary-page, falls-below, image-relations, page-column_boundary, page-column_cycle}
use Rattle.sf_chase.proofs.Links.{linked-correspondence}
use Rattle.sf_chase.proofs.Pages.Differentials.{HasDifferential-classes, HasDifferential-correspondence}
use Rattle.sf_chase.proofs.Pages.PageGroups.{PageBoundaries-sub, low-PageBoundaries}

module _ {R : Type 0} (X Y : Columned R) (d : X.group.V → Y.group.V) (differential : IsDifferential X Y d) (j i : ℕ)
    (C : ColumnOf X j) (D : ColumnOf Y i) where
  abbrev boundaries : Y.group.V → Type 0
  boundaries = PageBoundaries (filtered_by X) (filtered_by Y) d j i (suc i)

  boundaries-sub : IsSub Y.group boundaries
  boundaries-sub =
      PageBoundaries-sub (filtered_by X) (filtered_by Y) d (differential-filtered X Y d differential) j i (suc i)

  low-boundaries : IsWithin ((filtered_by Y).part i) boundaries
  low-boundaries =
      low-PageBoundaries (filtered_by X) (filtered_by Y) d (differential-filtered X Y d differential) j i (suc i)

  -- an element up to column i is equal to what stands in column i, modulo boundaries
  taken-boundaries : (v : Y.group.V) → (filtered_by Y).part (suc i) v → Mod Y.group boundaries v (D.put (D.taken v))
  taken-boundaries v h =
      Mod-within Y.group ((filtered_by Y).part i) boundaries low-boundaries v (D.put (D.taken v))
      (put_taken-part Y i D v h)

  pub column_differential-page : (u : C.group.V) (w : D.group.V) → HasColumnDifferential X Y d j i C D u w
      → HasDifferential (filtered_by X) (filtered_by Y) d j (suc j) i (suc i) (C.put u) (D.put w)
  column_differential-page u w h =
      let falls = below-falls X Y d differential (suc j) (suc i) h.0 h.1 in
      let image = d h.0 in
      let end = D.put (D.taken image) in
      let bound : Mod Y.group boundaries (D.put w) end =
      subst boundaries (map-difference D.group Y.group D.put D.put_map w (D.taken image))
      (column_boundary-page X Y d differential j i D (D.group.plus w (D.group.minus (D.taken image))) h.3) in
      let back = Mod-sym Y.group boundaries boundaries-sub image end (taken-boundaries image falls.1) in (
        h.0,
        falls,
        column-part X j C u h.0 falls.0 h.2,
        Mod-trans Y.group boundaries boundaries-sub (D.put w) end
            image bound back,
      )

  pub page-column_differential : (u : C.group.V) (w : D.group.V)
      → HasDifferential (filtered_by X) (filtered_by Y) d j (suc j) i (suc i) (C.put u) (D.put w)
      → HasColumnDifferential X Y d j i C D u w
  page-column_differential u w h =
      let low = falls-below X Y d differential (suc j) (suc i) h.0 h.1 in
      let image = d low.0 in
      let end = D.put (D.taken image) in
      let first : Mod C.group C.relations u (C.taken low.0) =
      Mod-trans C.group C.relations C.relations_sub u (C.taken h.0) (C.taken low.0) (part-column X j C u h.0 h.2)
      (Mod-map X.group C.group C.taken C.taken_map X.relations C.relations C.taken_relations h.0 low.0 low.2) in
      let same : Mod Y.group boundaries (d h.0) image =
      Mod-within Y.group Y.relations boundaries (λ v k. low-boundaries v (relations-part Y i v k)) (d h.0) image
      (image-relations X Y d differential h.0 low.0 low.2) in
      let bound : Mod Y.group boundaries (D.put w) end =
      Mod-trans Y.group boundaries boundaries-sub (D.put w) (d h.0) end h.3
      (Mod-trans Y.group boundaries boundaries-sub (d h.0) image end same (taken-boundaries image low.1.1)) in (
        low.0,
        low.1,
        first,
        page-column_boundary X Y d differential j i D (D.group.plus w (D.group.minus (D.taken image)))
            (subst boundaries (sym (map-difference D.group Y.group D.put D.put_map w (D.taken image))) bound),
      )

  -- its values are cycles of the page
  pub HasColumnDifferential-correspondence : (W : Columned R) (e : Y.group.V → W.group.V) → IsDifferential Y W e
      → IsColumnComplex X Y W d e → (s : ℕ)
      → IsCorrespondence C.group D.group (ColumnCycles X Y d j (suc i) C) (ColumnCycles Y W e i s D)
      (HasColumnDifferential X Y d j i C D)
  HasColumnDifferential-correspondence W e next complex s =
      let whole =
      HasDifferential-correspondence (filtered_by X) (filtered_by Y) d (differential-filtered X Y d differential) j
      (suc j) i (suc i)
      (filtered_by W) e (differential-filtered Y W e next) (complex-filtered X Y W d e complex) s in
      let onto = IsMap-after X.group Y.group D.group d D.taken differential.map D.taken_map in
      linked-correspondence X.group C.group D.group C.taken (λ v. D.taken (d v)) C.taken_map onto
      (FallsBelow X Y d (suc j) (suc i))
      C.relations (ColumnBoundaries X Y d j i D) (FallsBelow-sub X Y d differential (suc j) (suc i)) C.relations_sub
      (ColumnBoundaries-sub X Y d differential j i D) (ColumnCycles X Y d j (suc i) C) (ColumnCycles Y W e i s D)
      (λ u h. h)
      (λ w h. page-column_cycle Y W e next i s D w (whole.second (C.put (C.taken h.0)) (D.put w)
      (column_differential-page (C.taken h.0) w (
        h.0,
        h.1,
        Mod-refl C.group C.relations C.relations_sub
            (C.taken h.0),
        h.2,
      ))))

  -- boundaries have boundaries alone as values
  pub HasColumnDifferential-classes : (U : Columned R) (b : U.group.V → X.group.V) → IsDifferential U X b
      → IsColumnComplex U X Y b d → (t : ℕ)
      → IsMapOfClasses (ColumnCycles X Y d j (suc i) C) (ColumnBoundaries U X b t j C) (ColumnBoundaries X Y d j i D)
      (HasColumnDifferential X Y d j i C D)
  HasColumnDifferential-classes U b before complex t =
      let whole =
      HasDifferential-classes (filtered_by X) (filtered_by Y) d (differential-filtered X Y d differential) j (suc j)
      i (suc i)
      (filtered_by U) b (differential-filtered U X b before) (complex-filtered U X Y b d complex) t in
      record {
        image = λ u h. D.taken (d h.0);
        related = λ u h. (
          h.0,
          h.1,
          h.2,
          Mod-refl D.group (ColumnBoundaries X Y d j i D)
              (ColumnBoundaries-sub X Y d differential j i D) (D.taken (d h.0)),
        );
        zero = λ u w h k. page-column_boundary X Y d differential j i D w (whole.zero (C.put u) (D.put w)
            (column_differential-page u w h) (column_boundary-page U X b before t j C u k));
      }
