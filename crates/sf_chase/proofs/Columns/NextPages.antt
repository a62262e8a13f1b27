-- The next page in the coordinates of columns: its cycles are those with the differential zero, and its boundaries are
-- what is a differential.
use Rattle.std.proofs.Common.{ℕ, suc, ◌≤◌, sym, subst, arith}
use Rattle.sf_algebra.specs.Groups.{IsWithin}
use Rattle.sf_algebra.proofs.Operators.Congruences.{Mod-refl}
use Rattle.sf_algebra.proofs.Operators.GroupMaps.{IsMap-after}
use Rattle.sf_algebra.proofs.Operators.Groups.{map-zero}
use Rattle.sf_chase.specs.ColumnPages.{ColumnBoundaries, ColumnCycles, FallsBelow, HasColumnDifferential}
use Rattle.sf_chase.specs.Columns.{ColumnOf, Columned, IsColumnComplex, IsDifferential}
use Rattle.sf_chase.specs.Filtrations.{HasDifferential}
use Rattle.sf_chase.proofs.Columns.Differentials.{column_differential-page, page-column_differential}
use Rattle.sf_chase.proofs.Columns.Filtered.{complex-filtered, differential-filtered, filtered_by}
use Rattle.sf_chase.proofs.Columns.Pages.{FallsBelow-sub, column_boundary-page, column_cycle-page, page-column_boundary, page-column_cycle}
use Rattle.sf_chase.proofs.Images.{NearImageOf-zero}
use Rattle.sf_chase.proofs.Pages.NextPages.{kernel-next_cycles, next_cycles-kernel, values-next_boundaries}
use Rattle.sf_chase.proofs.Pages.PageGroups.{PageBoundaries-cycles, PageCycles-fall}

module _ {R : Type 0} (X Y : Columned R) (d : X.group.V → Y.group.V) (differential : IsDifferential X Y d) where
  -- cycles fall
  pub ColumnCycles-fall : (j s t : ℕ) → s ≤ t → (C : ColumnOf X j)
      → IsWithin (ColumnCycles X Y d j s C) (ColumnCycles X Y d j t C)
  ColumnCycles-fall j s t falls C z h =
      page-column_cycle X Y d differential j t C z
      (PageCycles-fall (filtered_by X) (filtered_by Y) d (differential-filtered X Y d differential) j (suc j) s t
      falls (C.put z)
      (column_cycle-page X Y d differential j s C z h))

  -- boundaries grow
  pub ColumnBoundaries-grow : (s t j : ℕ) → s ≤ t → (C : ColumnOf Y j)
      → IsWithin (ColumnBoundaries X Y d s j C) (ColumnBoundaries X Y d t j C)
  ColumnBoundaries-grow s t j grows C z h = (h.0, (X.rises s t grows h.0 h.1.0, h.1.1), h.2)

  -- from a column on that has all below it, nothing more is a boundary
  pub ColumnBoundaries-last : (top t j : ℕ) → ((v : X.group.V) → X.below top v) → (C : ColumnOf Y j)
      → IsWithin (ColumnBoundaries X Y d t j C) (ColumnBoundaries X Y d top j C)
  ColumnBoundaries-last top t j all C z h = (h.0, (all h.0, h.1.1), h.2)

  -- boundaries are cycles
  pub ColumnBoundaries-cycles : (W : Columned R) (e : Y.group.V → W.group.V) → IsDifferential Y W e
      → IsColumnComplex X Y W d e → (t j s : ℕ) → (C : ColumnOf Y j)
      → IsWithin (ColumnBoundaries X Y d t j C) (ColumnCycles Y W e j s C)
  ColumnBoundaries-cycles W e next complex t j s C z h =
      page-column_cycle Y W e next j s C z
      (PageBoundaries-cycles (filtered_by X) (filtered_by Y) (filtered_by W) d e
      (complex-filtered X Y W d e complex) t j (suc j) s
      (C.put z) (column_boundary-page X Y d differential t j C z h))

  module _ (j i : ℕ) (C : ColumnOf X j) (D : ColumnOf Y i) where
    -- the next cycles are those whose differential is zero
    pub column_cycles-kernel : (u : C.group.V) → ColumnCycles X Y d j i C u
        → HasColumnDifferential X Y d j i C D u D.group.zero
    column_cycles-kernel u h =
        let whole =
        next_cycles-kernel (filtered_by X) (filtered_by Y) d (differential-filtered X Y d differential) j (suc j) i
        (suc i)
        (omega arith) (C.put u) (column_cycle-page X Y d differential j i C u h) in
        page-column_differential X Y d differential j i C D u D.group.zero
        (subst (HasDifferential (filtered_by X) (filtered_by Y) d j (suc j) i (suc i) (C.put u))
        (sym (map-zero D.group Y.group D.put D.put_map)) whole)

    pub column_kernel-cycles : (u : C.group.V) → HasColumnDifferential X Y d j i C D u D.group.zero
        → ColumnCycles X Y d j i C u
    column_kernel-cycles u h =
        let whole =
        subst (HasDifferential (filtered_by X) (filtered_by Y) d j (suc j) i (suc i) (C.put u))
        (map-zero D.group Y.group D.put D.put_map) (column_differential-page X Y d differential j i C D u
        D.group.zero h) in
        page-column_cycle X Y d differential j i C u
        (kernel-next_cycles (filtered_by X) (filtered_by Y) d (differential-filtered X Y d differential) j (suc j) i
        (suc i)
        (omega arith) (C.put u) whole)

    -- the next boundaries are the values of the differential
    pub column_boundaries-values : (w : D.group.V) → ColumnBoundaries X Y d (suc j) i D w
        → (u : C.group.V) × HasColumnDifferential X Y d j i C D u w
    column_boundaries-values w h =
        let relation =
        NearImageOf-zero X.group D.group (λ v. D.taken (d v))
        (IsMap-after X.group Y.group D.group d D.taken differential.map D.taken_map) (FallsBelow X Y d j (suc i))
        D.relations
        (FallsBelow-sub X Y d differential j (suc i)) D.relations_sub in
        (C.taken h.0, (h.0, h.1, Mod-refl C.group C.relations C.relations_sub (C.taken h.0), relation _ h.2))

    pub column_values-boundaries : (u : C.group.V) (w : D.group.V) → HasColumnDifferential X Y d j i C D u w
        → ColumnBoundaries X Y d (suc j) i D w
    column_values-boundaries u w h =
        page-column_boundary X Y d differential (suc j) i D w
        (values-next_boundaries (filtered_by X) (filtered_by Y) d (differential-filtered X Y d differential) j
        (suc j) i (suc i)
        (omega arith) (C.put u) (D.put w) (column_differential-page X Y d differential j i C D u w h))
