-- Leading columns may be changed by boundaries of the last page, and classes by those of the next lower part: what is a
-- boundary is a leading column of 0, and what is of the lower part has the leading column 0.
use Rattle.std.proofs.Common.{◌≡◌, ℕ, suc, sym, ◌∙◌, subst, arith}
use Rattle.sf_algebra.specs.Groups.{Group, IsMap, Mod}
use Rattle.sf_algebra.proofs.Operators.Congruences.{Mod-equal, Mod-inside, Mod-map, Mod-sym, Mod-trans, Mod-zero}
use Rattle.sf_algebra.proofs.Operators.Groups.{difference-plus, map-zero}
use Rattle.sf_chase.specs.ColumnPages.{ColumnBoundaries, HasColumn, ImagesModulo, IsInPart}
use Rattle.sf_chase.specs.Columns.{ColumnOf, Columned, IsColumnComplex, IsDifferential}
use Rattle.sf_chase.proofs.Filtrations.ColumnParts.{HasColumn-correspondence, ImagesModulo-sub}

-- a difference added to what was taken away
plus-difference_back : {R : Type 0} (G : Group R) (u v : G.V) → G.plus v (G.plus u (G.minus v)) ≡ u
plus-difference_back G u v = G.comm v (G.plus u (G.minus v)) ∙ difference-plus G u v

module _ {R : Type 0} (X Y W : Columned R) (d : X.group.V → Y.group.V) (e : Y.group.V → W.group.V)
    (first : IsDifferential X Y d) (second : IsDifferential Y W e) (complex : IsColumnComplex X Y W d e) (G : Group R)
    (combined : G.V → Y.group.V) (map : IsMap G Y.group combined) (j : ℕ) (C : ColumnOf Y j) where
  boundary-column : (top : ℕ) (z : C.group.V) → ColumnBoundaries X Y d top j C z
      → HasColumn X Y W d e combined j C G.zero z
  boundary-column top z h =
      let near = h.1.1 in
      let images = ImagesModulo-sub X Y W d e first second in
      let relation : W.relations (e near.0) =
      Mod-inside W.group W.relations W.relations_sub (e near.0) (e (d h.0))
      (Mod-sym W.group W.relations W.relations_sub (e (d h.0)) (e near.0)
      (Mod-map Y.group W.group e second.map Y.relations W.relations second.relates (d h.0) near.0 near.2))
      (complex h.0) in
      let image : ImagesModulo X Y d near.0 =
      (h.0, tt, Mod-sym Y.group Y.relations Y.relations_sub (d h.0) near.0 near.2) in
      let from_zero : Mod Y.group (ImagesModulo X Y d) Y.group.zero near.0 =
      Mod-sym Y.group (ImagesModulo X Y d) images near.0 Y.group.zero (Mod-zero Y.group (ImagesModulo X Y d) images near.0 image) in (
        near.0,
        (near.1, relation),
        subst (λ v. Mod Y.group (ImagesModulo X Y d) v near.0) (sym (map-zero G Y.group combined map)) from_zero,
        Mod-trans C.group C.relations C.relations_sub z (C.taken (d h.0)) (C.taken near.0) h.2
            (Mod-map Y.group C.group C.taken C.taken_map Y.relations C.relations C.taken_relations (d h.0) near.0 near.2),
      )

  lower-column : (c : G.V) → IsInPart X Y W d e combined j c → HasColumn X Y W d e combined j C c C.group.zero
  lower-column c h = (
    h.0,
    (Y.rises j (suc j) (omega arith) h.0 h.1.0, h.1.1),
    h.2,
    Mod-equal C.group C.relations C.relations_sub C.group.zero (C.taken h.0) (sym (C.taken_below h.0 h.1.0)),
  )

  pub column-changed : (top : ℕ) (c : G.V) (y z : C.group.V) → HasColumn X Y W d e combined j C c y
      → Mod C.group (ColumnBoundaries X Y d top j C) z y → HasColumn X Y W d e combined j C c z
  column-changed top c y z h same =
      let f = HasColumn-correspondence X Y W d e first second G combined map j C in
      let rest = C.group.plus z (C.group.minus y) in
      subst (HasColumn X Y W d e combined j C c) (plus-difference_back C.group z y)
      (subst (λ x. HasColumn X Y W d e combined j C x (C.group.plus y rest)) (G.unit c)
      (f.sums c G.zero y rest h (boundary-column top rest same)))

  pub class-changed : (b c : G.V) (z : C.group.V) → HasColumn X Y W d e combined j C b z
      → Mod G (IsInPart X Y W d e combined j) c b → HasColumn X Y W d e combined j C c z
  class-changed b c z h same =
      let f = HasColumn-correspondence X Y W d e first second G combined map j C in
      let rest = G.plus c (G.minus b) in
      subst (λ x. HasColumn X Y W d e combined j C x z) (plus-difference_back G c b)
      (subst (HasColumn X Y W d e combined j C (G.plus b rest)) (C.group.unit z)
      (f.sums b rest z C.group.zero h (lower-column rest same)))
