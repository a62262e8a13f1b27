-- Cycles and boundaries of a page in the coordinates of one column and modulo its relations are those by whole
-- elements.
use Rattle.std.proofs.Common.{ℕ, suc}
use Rattle.sf_algebra.specs.Groups.{IsSub, Mod, IsWithin}
use Rattle.sf_algebra.proofs.Operators.Congruences.{Mod-map, Mod-sym, Mod-trans}
use Rattle.sf_algebra.proofs.Operators.GroupMaps.{IsMap-after}
use Rattle.sf_algebra.proofs.Operators.Subgroups.{BothOf-sub, PreimageOf-sub}
use Rattle.sf_chase.specs.ColumnPages.{ColumnBoundaries, ColumnCycles, FallsBelow, NearBelow}
use Rattle.sf_chase.specs.Columns.{ColumnOf, Columned, IsDifferential}
use Rattle.sf_chase.specs.Filtrations.{FallsTo, PageBoundaries, PageCycles}
use Rattle.sf_chase.proofs.Columns.Filtered.{NearBelow-sub, below-part, column-part, filtered_by, part-column}
use Rattle.sf_chase.proofs.Images.{NearImageOf-Mod, NearImageOf-sub}

module _ {R : Type 0} (X Y : Columned R) (d : X.group.V → Y.group.V) (differential : IsDifferential X Y d) where
  pub FallsBelow-sub : (t s : ℕ) → IsSub X.group (FallsBelow X Y d t s)
  FallsBelow-sub t s =
      BothOf-sub X.group (X.below t) (λ v. NearBelow Y s (d v)) (X.below_sub t)
      (PreimageOf-sub X.group Y.group d differential.map (NearBelow Y s) (NearBelow-sub Y s))

  pub below-falls : (t s : ℕ) → IsWithin (FallsBelow X Y d t s) (FallsTo (filtered_by X) (filtered_by Y) d t s)
  below-falls t s v h = (below-part X t v h.0, h.1)

  -- images of elements that are equal modulo relations are so too
  pub image-relations : (v w : X.group.V) → Mod X.group X.relations v w → Mod Y.group Y.relations (d v) (d w)
  image-relations v w h =
      Mod-map X.group Y.group d differential.map X.relations Y.relations differential.relates v w h

  -- what falls is equal modulo relations to an element that falls and has no relation in it
  pub falls-below : (t s : ℕ) (v : X.group.V) → FallsTo (filtered_by X) (filtered_by Y) d t s v
      → (w : X.group.V) × FallsBelow X Y d t s w × Mod X.group X.relations v w
  falls-below t s v h =
      let near = h.0 in
      let same = image-relations near.0 v (Mod-sym X.group X.relations X.relations_sub v near.0 near.2) in (
        near.0,
        (
          near.1,
          NearImageOf-Mod Y.group (λ u. u) (Y.below s) Y.relations Y.relations_sub (d near.0) (d v)
              same h.1,
        ),
        near.2,
      )

  module _ (j s : ℕ) (C : ColumnOf X j) (z : C.group.V) where
    pub column_cycle-page : ColumnCycles X Y d j s C z
        → PageCycles (filtered_by X) (filtered_by Y) d j (suc j) s (C.put z)
    column_cycle-page h =
        let falls = below-falls (suc j) s h.0 h.1 in
        (h.0, falls, column-part X j C z h.0 falls.0 h.2)

    pub page-column_cycle : PageCycles (filtered_by X) (filtered_by Y) d j (suc j) s (C.put z)
        → ColumnCycles X Y d j s C z
    page-column_cycle h =
        let low = falls-below (suc j) s h.0 h.1 in (
          low.0,
          low.1,
          Mod-trans C.group C.relations C.relations_sub z (C.taken h.0) (C.taken low.0) (part-column X j C z h.0 h.2)
              (Mod-map X.group C.group C.taken C.taken_map X.relations C.relations C.taken_relations h.0 low.0 low.2),
        )

  module _ (t j : ℕ) (C : ColumnOf Y j) where
    pub ColumnBoundaries-sub : IsSub C.group (ColumnBoundaries X Y d t j C)
    ColumnBoundaries-sub =
        NearImageOf-sub X.group C.group (λ v. C.taken (d v))
        (IsMap-after X.group Y.group C.group d C.taken differential.map C.taken_map) (FallsBelow X Y d t (suc j))
        C.relations
        (FallsBelow-sub t (suc j)) C.relations_sub

    pub column_boundary-page : (z : C.group.V) → ColumnBoundaries X Y d t j C z
        → PageBoundaries (filtered_by X) (filtered_by Y) d t j (suc j) (C.put z)
    column_boundary-page z h =
        let falls = below-falls t (suc j) h.0 h.1 in
        (h.0, falls, column-part Y j C z (d h.0) falls.1 h.2)

    pub page-column_boundary : (z : C.group.V)
        → PageBoundaries (filtered_by X) (filtered_by Y) d t j (suc j) (C.put z) → ColumnBoundaries X Y d t j C z
    page-column_boundary z h =
        let low = falls-below t (suc j) h.0 h.1 in (
          low.0,
          low.1,
          Mod-trans C.group C.relations C.relations_sub z (C.taken (d h.0)) (C.taken (d low.0))
              (part-column Y j C z (d h.0) h.2)
              (Mod-map Y.group C.group C.taken C.taken_map Y.relations C.relations C.taken_relations (d h.0) (d low.0)
              (image-relations h.0 low.0 low.2)),
        )
