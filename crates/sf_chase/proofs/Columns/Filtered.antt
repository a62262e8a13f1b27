-- A group in columns with relations as a filtered group, a differential as a map of these, and what reading off one
-- column does to the parts.
use Rattle.std.proofs.Common.{◌≡◌, ℕ, suc, refl, sym, ◌∙◌, ap, subst}
use Rattle.sf_algebra.specs.Groups.{IsSub, Mod, IsWithin, PreimageOf}
use Rattle.sf_algebra.proofs.Operators.Congruences.{Mod-map, Mod-sym, Mod-trans, Mod-within}
use Rattle.sf_algebra.proofs.Operators.GroupMaps.{IsMap-id}
use Rattle.sf_algebra.proofs.Operators.Groups.{plus-difference_first}
use Rattle.sf_algebra.proofs.Operators.Subgroups.{PreimageOf-sub}
use Rattle.sf_chase.specs.ColumnPages.{NearBelow}
use Rattle.sf_chase.specs.Columns.{ColumnOf, Columned, IsColumnComplex, IsDifferential}
use Rattle.sf_chase.specs.Filtrations.{Filtered, IsComplex, IsFilteredMap}
use Rattle.sf_chase.proofs.Images.{NearImageOf-image, NearImageOf-mono, NearImageOf-natural, NearImageOf-sub, NearImageOf-within, NearImageOf-zero}

module _ {R : Type 0} (X : Columned R) where
  pub NearBelow-sub : (j : ℕ) → IsSub X.group (NearBelow X j)
  NearBelow-sub j =
      NearImageOf-sub X.group X.group (λ v. v) (IsMap-id X.group) (X.below j) X.relations (X.below_sub j) X.relations_sub

  -- part j is what is equal modulo relations to an element below column j
  abbrev pub filtered_by : Filtered R
  filtered_by = record {
    group = X.group;
    part = NearBelow X;
    sub = NearBelow-sub;
    rises = λ i j h. NearImageOf-mono X.group (λ v. v) (X.below i) (X.below j) X.relations X.relations
        (X.rises i j h) (λ v k. k);
  }

  pub below-part : (j : ℕ) → IsWithin (X.below j) (NearBelow X j)
  below-part j v h = NearImageOf-image X.group (λ u. u) (X.below j) X.relations X.relations_sub v h

  pub relations-part : (j : ℕ) → IsWithin X.relations (NearBelow X j)
  relations-part j =
      NearImageOf-zero X.group X.group (λ v. v) (IsMap-id X.group) (X.below j) X.relations (X.below_sub j) X.relations_sub

  -- the lowest part has the relations alone
  pub part-relations : IsWithin (NearBelow X 0) X.relations
  part-relations =
      NearImageOf-within X.group (λ v. v) (X.below 0) X.relations X.relations X.relations_sub
      (λ v h. subst X.relations (sym (X.nothing_lower v h)) X.relations_sub.has_zero) (λ v h. h)

pub differential-filtered : {R : Type 0} (X Y : Columned R) (d : X.group.V → Y.group.V) → IsDifferential X Y d
    → IsFilteredMap (filtered_by X) (filtered_by Y) d
differential-filtered X Y d differential = record {
  map = differential.map;
  keeps = λ j v h. NearImageOf-natural X.group Y.group (λ u. u) (λ u. u) (X.below j) X.relations (Y.below j)
      Y.relations d d
      differential.map (λ u. refl) (differential.keeps j) differential.relates v h;
}

pub complex-filtered : {R : Type 0} (X Y W : Columned R) (d : X.group.V → Y.group.V) (e : Y.group.V → W.group.V)
    → IsColumnComplex X Y W d e → IsComplex (filtered_by X) (filtered_by Y) (filtered_by W) d e
complex-filtered X Y W d e complex v = relations-part W 0 (e (d v)) (complex v)

module _ {R : Type 0} (X : Columned R) (j : ℕ) (C : ColumnOf X j) where
  abbrev lower : X.group.V → Type 0
  lower = NearBelow X j

  -- what is lower has a relation in the column
  pub taken-part : IsWithin (NearBelow X j) (PreimageOf C.taken C.relations)
  taken-part =
      NearImageOf-within X.group (λ v. v) (X.below j) X.relations (PreimageOf C.taken C.relations)
      (PreimageOf-sub X.group C.group C.taken C.taken_map C.relations C.relations_sub)
      (λ v h. subst C.relations (sym (C.taken_below v h)) C.relations_sub.has_zero) C.taken_relations

  -- an element less its highest column is lower
  pub put_taken-below : (v : X.group.V) → X.below (suc j) v → Mod X.group (X.below j) v (C.put (C.taken v))
  put_taken-below v h =
      let parts = X.highest j v h in
      let top = parts.0 in
      let rest = parts.1 in
      let same : C.taken v ≡ C.taken top =
      ap C.taken (sym parts.4) ∙ C.taken_map.to_plus top rest
      ∙ ap (C.group.plus (C.taken top)) (C.taken_below rest parts.3) ∙ C.group.unit (C.taken top) in
      let put-same : C.put (C.taken v) ≡ top = ap C.put same ∙ C.put_taken top parts.2 in
      let left : X.group.plus v (X.group.minus (C.put (C.taken v))) ≡ rest =
      (λ i. X.group.plus (sym parts.4 i) (X.group.minus (put-same i))) ∙ plus-difference_first X.group top rest in
      subst (X.below j) (sym left) parts.3

  pub put_taken-part : (v : X.group.V) → NearBelow X (suc j) v → Mod X.group (NearBelow X j) v (C.put (C.taken v))
  put_taken-part v h =
      let G = X.group in
      let near : (u w : G.V) → Mod G X.relations u w → Mod G lower u w =
      λ u w e. Mod-within G X.relations lower (relations-part X j) u w e in
      let put_taken : Mod G X.relations (C.put (C.taken h.0)) (C.put (C.taken v)) =
      Mod-map C.group G C.put C.put_map C.relations X.relations C.put_relations (C.taken h.0) (C.taken v)
      (Mod-map G C.group C.taken C.taken_map X.relations C.relations C.taken_relations h.0 v
      (Mod-sym G X.relations X.relations_sub v h.0 h.2)) in
      Mod-trans G lower (NearBelow-sub X j) v h.0 (C.put (C.taken v)) (near v h.0 h.2)
      (Mod-trans G lower (NearBelow-sub X j) h.0 (C.put (C.taken h.0)) (C.put (C.taken v))
      (Mod-within G (X.below j) lower (below-part X j) h.0 (C.put (C.taken h.0)) (put_taken-below h.0 h.1))
      (near (C.put (C.taken h.0)) (C.put (C.taken v)) put_taken))

  -- elements of the column are equal modulo its relations where they are equal in X modulo the lower part
  pub column-part : (c : C.group.V) (v : X.group.V) → NearBelow X (suc j) v → Mod C.group C.relations c (C.taken v)
      → Mod X.group (NearBelow X j) (C.put c) v
  column-part c v h k =
      let G = X.group in
      Mod-trans G lower (NearBelow-sub X j) (C.put c) (C.put (C.taken v)) v
      (Mod-within G X.relations lower (relations-part X j) (C.put c) (C.put (C.taken v))
      (Mod-map C.group G C.put C.put_map C.relations X.relations C.put_relations c (C.taken v) k))
      (Mod-sym G lower (NearBelow-sub X j) v (C.put (C.taken v)) (put_taken-part v h))

  pub part-column : (c : C.group.V) (v : X.group.V) → Mod X.group (NearBelow X j) (C.put c) v
      → Mod C.group C.relations c (C.taken v)
  part-column c v h =
      subst (λ e. Mod C.group C.relations e (C.taken v)) (C.taken_put c)
      (Mod-map X.group C.group C.taken C.taken_map lower C.relations taken-part (C.put c) v h)
