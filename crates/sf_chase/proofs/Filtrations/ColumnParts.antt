-- The filtration of homology in coordinates of generators and of one column: its parts, less the next lower ones, are
-- the last page at that column.
use Rattle.std.proofs.Common.{ℕ, suc, arith}
use Rattle.sf_algebra.specs.Groups.{Group, IsSub, IsMap, Mod, IsWithin, Whole}
use Rattle.sf_algebra.proofs.Operators.Congruences.{Mod-inside, Mod-map, Mod-refl, Mod-sym, Mod-trans}
use Rattle.sf_algebra.proofs.Operators.Correspondences.{IsCorrespondence, IsMapOfClasses, converse}
use Rattle.sf_algebra.proofs.Operators.GroupMaps.{IsMap-id}
use Rattle.sf_algebra.proofs.Operators.Subgroups.{BothOf-sub, PreimageOf-sub, Whole-sub}
use Rattle.sf_chase.specs.ColumnPages.{ColumnBoundaries, ColumnCycles, CyclesBelow, HasColumn, ImagesModulo, IsInPart}
use Rattle.sf_chase.specs.Columns.{ColumnOf, Columned, IsColumnComplex, IsDifferential}
use Rattle.sf_chase.specs.Filtrations.{BoundariesOf, FallsTo, HasLeadingTerm, HomologyPart}
use Rattle.sf_chase.proofs.Columns.Filtered.{below-part, column-part, complex-filtered, differential-filtered, filtered_by, part-column, part-relations, relations-part}
use Rattle.sf_chase.proofs.Columns.Pages.{column_boundary-page, page-column_boundary}
use Rattle.sf_chase.proofs.Filtrations.LeadingTerms.{HasLeadingTerm-classes, HasLeadingTerm-classes_back}
use Rattle.sf_chase.proofs.Images.{NearImageOf-mono, NearImageOf-sub, NearImageOf-zero}
use Rattle.sf_chase.proofs.Links.{correspondence-along, linked-correspondence}

module _ {R : Type 0} (X Y W : Columned R) (d : X.group.V → Y.group.V) (e : Y.group.V → W.group.V)
    (first : IsDifferential X Y d) (second : IsDifferential Y W e) where
  pub ImagesModulo-sub : IsSub Y.group (ImagesModulo X Y d)
  ImagesModulo-sub =
      NearImageOf-sub X.group Y.group d first.map Whole Y.relations (Whole-sub X.group) Y.relations_sub

  pub relations-ImagesModulo : IsWithin Y.relations (ImagesModulo X Y d)
  relations-ImagesModulo =
      NearImageOf-zero X.group Y.group d first.map Whole Y.relations (Whole-sub X.group) Y.relations_sub

  images-boundaries : IsWithin (ImagesModulo X Y d) (BoundariesOf (filtered_by X) (filtered_by Y) d)
  images-boundaries = NearImageOf-mono Y.group d Whole Whole Y.relations _ (λ v h. h) (relations-part Y 0)

  boundaries-images : IsWithin (BoundariesOf (filtered_by X) (filtered_by Y) d) (ImagesModulo X Y d)
  boundaries-images = NearImageOf-mono Y.group d Whole Whole _ Y.relations (λ v h. h) (part-relations Y)

  pub CyclesBelow-sub : (j : ℕ) → IsSub Y.group (CyclesBelow Y W e j)
  CyclesBelow-sub j =
      BothOf-sub Y.group (Y.below j) (λ v. W.relations (e v)) (Y.below_sub j)
      (PreimageOf-sub Y.group W.group e second.map W.relations W.relations_sub)

  below-cycles : (j : ℕ) → IsWithin (CyclesBelow Y W e j) (FallsTo (filtered_by Y) (filtered_by W) e j 0)
  below-cycles j v h = (below-part Y j v h.0, relations-part W 0 (e v) h.1)

  -- a cycle of a part is equal modulo relations to one below the column
  cycles-below : (j : ℕ) (v : Y.group.V) → FallsTo (filtered_by Y) (filtered_by W) e j 0 v
      → (w : Y.group.V) × CyclesBelow Y W e j w × Mod Y.group Y.relations v w
  cycles-below j v h =
      let near = h.0 in
      let same : Mod W.group W.relations (e near.0) (e v) =
      Mod-map Y.group W.group e second.map Y.relations W.relations second.relates near.0 v
      (Mod-sym Y.group Y.relations Y.relations_sub v near.0 near.2) in
      let relation = Mod-inside W.group W.relations W.relations_sub (e near.0) (e v) same (part-relations W (e v) h.1) in
      (near.0, (near.1, relation), near.2)

  -- what is equal modulo boundaries to v is so modulo images to what is equal to v modulo relations
  images-same : (u v w : Y.group.V) → Mod Y.group (BoundariesOf (filtered_by X) (filtered_by Y) d) u v
      → Mod Y.group Y.relations v w → Mod Y.group (ImagesModulo X Y d) u w
  images-same u v w h k =
      Mod-trans Y.group (ImagesModulo X Y d) ImagesModulo-sub u v w (boundaries-images _ h) (relations-ImagesModulo _ k)

  module _ (G : Group R) (combined : G.V → Y.group.V) (map : IsMap G Y.group combined) (j : ℕ) where
    pub part-homology : (c : G.V) → IsInPart X Y W d e combined j c
        → HomologyPart (filtered_by X) (filtered_by Y) (filtered_by W) d e j (combined c)
    part-homology c h = (h.0, below-cycles j h.0 h.1, images-boundaries _ h.2)

    pub homology-part : (c : G.V) → HomologyPart (filtered_by X) (filtered_by Y) (filtered_by W) d e j (combined c)
        → IsInPart X Y W d e combined j c
    homology-part c h =
        let low = cycles-below j h.0 h.1 in
        (low.0, low.1, images-same (combined c) h.0 low.0 h.2 low.2)

    module _ (C : ColumnOf Y j) where
      pub column-term : (c : G.V) (z : C.group.V) → HasColumn X Y W d e combined j C c z
          → HasLeadingTerm (filtered_by X) (filtered_by Y) (filtered_by W) d e j (suc j) (combined c) (C.put z)
      column-term c z h =
          let falls = below-cycles (suc j) h.0 h.1 in
          (h.0, falls, images-boundaries _ h.2, column-part Y j C z h.0 falls.0 h.3)

      pub term-column : (c : G.V) (z : C.group.V)
          → HasLeadingTerm (filtered_by X) (filtered_by Y) (filtered_by W) d e j (suc j) (combined c) (C.put z)
          → HasColumn X Y W d e combined j C c z
      term-column c z h =
          let low = cycles-below (suc j) h.0 h.1 in
          let same = Mod-map Y.group C.group C.taken C.taken_map Y.relations C.relations C.taken_relations h.0 low.0
          low.2 in (
            low.0,
            low.1,
            images-same (combined c) h.0 low.0 h.2 low.2,
            Mod-trans C.group C.relations C.relations_sub z (C.taken h.0) (C.taken low.0)
                (part-column Y j C z h.0 h.3) same,
          )

      pub HasColumn-correspondence : IsCorrespondence G C.group (IsInPart X Y W d e combined (suc j))
          (ColumnCycles Y W e j 0 C)
          (HasColumn X Y W d e combined j C)
      HasColumn-correspondence =
          correspondence-along G Y.group C.group combined map _ (ColumnCycles Y W e j 0 C) _
          (linked-correspondence Y.group Y.group C.group (λ v. v) C.taken (IsMap-id Y.group) C.taken_map
          (CyclesBelow Y W e (suc j)) (ImagesModulo X Y d) C.relations (CyclesBelow-sub (suc j)) ImagesModulo-sub
          C.relations_sub
          _ (ColumnCycles Y W e j 0 C) (λ u h. h) (λ w h. (h.0, (h.1.0, relations-part W 0 (e h.0) h.1.1), h.2)))

module _ {R : Type 0} (X Y W : Columned R) (d : X.group.V → Y.group.V) (e : Y.group.V → W.group.V)
    (first : IsDifferential X Y d) (second : IsDifferential Y W e) (complex : IsColumnComplex X Y W d e) (G : Group R)
    (combined : G.V → Y.group.V) (map : IsMap G Y.group combined) (j top : ℕ) (C : ColumnOf Y j) where
  -- from the part to the page: lower parts go to boundaries
  pub HasColumn-classes : ((v : X.group.V) → X.below top v)
      → IsMapOfClasses (IsInPart X Y W d e combined (suc j)) (IsInPart X Y W d e combined j)
      (ColumnBoundaries X Y d top j C)
      (HasColumn X Y W d e combined j C)
  HasColumn-classes all =
      let whole =
      HasLeadingTerm-classes (filtered_by X) (filtered_by Y) (filtered_by W) d e (differential-filtered X Y d first)
      (differential-filtered Y W e second) (complex-filtered X Y W d e complex) j (suc j) (omega arith) top
      (λ v. below-part X top v (all v)) in
      record {
        image = λ c h. C.taken h.0;
        related = λ c h. (h.0, h.1, h.2, Mod-refl C.group C.relations C.relations_sub (C.taken h.0));
        zero = λ c z h k. page-column_boundary X Y d first top j C z (whole.zero (combined c) (C.put z)
            (column-term X Y W d e first second G combined map j C c z h)
            (part-homology X Y W d e first second G combined map j c k));
      }

  -- and back, where the combinations are all homology: boundaries go to lower parts
  pub HasColumn-classes_back : ((v : Y.group.V) → W.relations (e v)
      → (c : G.V) × Mod Y.group (ImagesModulo X Y d) (combined c) v)
      → IsMapOfClasses (ColumnCycles Y W e j 0 C) (ColumnBoundaries X Y d top j C) (IsInPart X Y W d e combined j)
      (converse (HasColumn X Y W d e combined j C))
  HasColumn-classes_back generate =
      let whole =
      HasLeadingTerm-classes_back (filtered_by X) (filtered_by Y) (filtered_by W) d e (differential-filtered X Y d first)
      (differential-filtered Y W e second) (complex-filtered X Y W d e complex) j (suc j) top in
      let cycle : (z : C.group.V) (h : ColumnCycles Y W e j 0 C z) → W.relations (e h.0) =
      λ z h. part-relations W (e h.0) h.1.1 in
      record {
        image = λ z h. (generate h.0 (cycle z h)).0;
        related = λ z h. (h.0, (h.1.0, cycle z h), (generate h.0 (cycle z h)).1, h.2);
        zero = λ z c h k. homology-part X Y W d e first second G combined map j c (whole.zero (C.put z) (combined c)
            (column-term X Y W d e first second G combined map j C c z h) (column_boundary-page X Y d first top j C z k));
      }
