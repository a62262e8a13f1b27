-- Leading terms of homology are the last page. A cycle in part p that is a boundary modulo the next lower part differs
-- from an image by a cycle there, and a leading term that is an image makes the cycle a boundary modulo that part.
use Rattle.std.proofs.Common.{ℕ, ◌≤◌, arith}
use Rattle.sf_algebra.specs.Groups.{IsWithin, Mod, Whole}
use Rattle.sf_algebra.proofs.Operators.Congruences.{Mod-inside, Mod-refl, Mod-sym, Mod-trans, Mod-within}
use Rattle.sf_algebra.proofs.Operators.Correspondences.{IsCorrespondence, IsMapOfClasses, converse}
use Rattle.sf_algebra.proofs.Operators.GroupMaps.{IsMap-id}
use Rattle.sf_algebra.proofs.Operators.Subgroups.{has_difference}
use Rattle.sf_chase.specs.Filtrations.{BoundariesOf, FallsTo, Filtered, HasLeadingTerm, HomologyPart, IsComplex, IsFilteredMap, PageBoundaries, PageCycles}
use Rattle.sf_chase.proofs.Images.{NearImageOf-image, NearImageOf-zero}
use Rattle.sf_chase.proofs.Links.{Mod-image_difference, linked-classes, linked-classes_back, linked-correspondence}
use Rattle.sf_chase.proofs.Pages.PageGroups.{BoundariesOf-sub, FallsTo-sub, HomologyPart-sub, PageBoundaries-sub, low-PageBoundaries, relations-BoundariesOf}

module _ {R : Type 0} (X Y W : Filtered R) (f : X.group.V → Y.group.V) (g : Y.group.V → W.group.V)
    (first : IsFilteredMap X Y f) (second : IsFilteredMap Y W g) (complex : IsComplex X Y W f g) (l p : ℕ) where
  pub HasLeadingTerm-correspondence : IsCorrespondence Y.group Y.group (HomologyPart X Y W f g p) (PageCycles Y W g l p 0)
      (HasLeadingTerm X Y W f g l p)
  HasLeadingTerm-correspondence =
      linked-correspondence Y.group Y.group Y.group (λ v. v) (λ v. v) (IsMap-id Y.group) (IsMap-id Y.group)
      (FallsTo Y W g p 0) (BoundariesOf X Y f) (Y.part l) (FallsTo-sub Y W g second p 0) (BoundariesOf-sub X Y f first)
      (Y.sub l) (HomologyPart X Y W f g p) (PageCycles Y W g l p 0) (λ u h. h) (λ w h. h)

  -- homology has what is a boundary modulo relations in each part
  pub boundaries-HomologyPart : (q : ℕ) (u : Y.group.V) → BoundariesOf X Y f u → HomologyPart X Y W f g q u
  boundaries-HomologyPart q u h =
      NearImageOf-zero Y.group Y.group (λ v. v) (IsMap-id Y.group) (FallsTo Y W g q 0) (BoundariesOf X Y f)
      (FallsTo-sub Y W g second q 0) (BoundariesOf-sub X Y f first) u h

  -- a cycle less an image that is in its part
  pub less_image-FallsTo : (v : Y.group.V) (b : X.group.V) → Y.part l (Y.group.plus v (Y.group.minus (f b)))
      → W.part 0 (g v) → FallsTo Y W g l 0 (Y.group.plus v (Y.group.minus (f b)))
  less_image-FallsTo v b lower cycle = (
    lower,
    Mod-inside W.group (W.part 0) (W.sub 0) (g (Y.group.plus v (Y.group.minus (f b)))) (g v)
        (Mod-sym W.group (W.part 0) (W.sub 0) (g v) (g (Y.group.plus v (Y.group.minus (f b))))
        (Mod-image_difference Y.group W.group g second.map (W.part 0) (W.sub 0) v (f b) (complex b))) cycle,
  )

  -- a cycle that is equal modulo boundaries to one in the lower part has a boundary of the last page as leading term
  pub lower-boundary : l ≤ p → (top : ℕ) → ((b : X.group.V) → X.part top b) → (v : Y.group.V) → FallsTo Y W g p 0 v
      → HomologyPart X Y W f g l v → PageBoundaries X Y f top l p v
  lower-boundary lower top all v falls h =
      let lower_term = h.0 in
      let bound = h.2 in
      let less = Y.group.plus v (Y.group.minus lower_term) in
      let inside : Y.part p less =
      has_difference Y.group (Y.part p) (Y.sub p) v lower_term falls.0 (Y.rises l p lower lower_term h.1.0) in
      let same : (i : ℕ) → Mod Y.group (Y.part i) less (f bound.0) =
      λ i. Mod-within Y.group (Y.part 0) (Y.part i) (Y.rises 0 i (omega arith)) less (f bound.0) bound.2 in
      let image : Y.part p (f bound.0) =
      Mod-inside Y.group (Y.part p) (Y.sub p) (f bound.0) less
      (Mod-sym Y.group (Y.part p) (Y.sub p) less (f bound.0) (same p)) inside in
      let step : Mod Y.group (Y.part l) v less =
      Mod-image_difference Y.group Y.group (λ u. u) (IsMap-id Y.group) (Y.part l) (Y.sub l) v lower_term h.1.0 in
      (bound.0, (all bound.0, image), Mod-trans Y.group (Y.part l) (Y.sub l) v less (f bound.0) step (same l))

  pub HasLeadingTerm-classes : l ≤ p → (top : ℕ) → ((b : X.group.V) → X.part top b)
      → IsMapOfClasses (HomologyPart X Y W f g p) (HomologyPart X Y W f g l) (PageBoundaries X Y f top l p)
      (HasLeadingTerm X Y W f g l p)
  HasLeadingTerm-classes lower top all =
      linked-classes Y.group Y.group (λ v. v) (λ v. v) (FallsTo Y W g p 0) (BoundariesOf X Y f) (HomologyPart X Y W f g l)
      (Y.part l) (PageBoundaries X Y f top l p) (BoundariesOf-sub X Y f first) (Y.sub l)
      (HomologyPart-sub X Y W f g complex first second l) (PageBoundaries-sub X Y f first top l p)
      (boundaries-HomologyPart l) (low-PageBoundaries X Y f first top l p) (HomologyPart X Y W f g p) (λ u h. h)
      (lower-boundary lower top all)

  -- a cycle with a boundary as leading term is equal modulo boundaries to one in the lower part
  pub boundary-lower : (top : ℕ) (v : Y.group.V) → FallsTo Y W g p 0 v → PageBoundaries X Y f top l p v
      → HomologyPart X Y W f g l v
  boundary-lower top v falls h = (
    Y.group.plus v (Y.group.minus (f h.0)),
    less_image-FallsTo v h.0 h.2 falls.1,
    Mod-image_difference Y.group Y.group (λ u. u) (IsMap-id Y.group) (BoundariesOf X Y f) (BoundariesOf-sub X Y f first) v
        (f h.0) (NearImageOf-image Y.group f Whole (Y.part 0) (Y.sub 0) h.0 tt),
  )

  pub HasLeadingTerm-classes_back : (top : ℕ)
      → IsMapOfClasses (PageCycles Y W g l p 0) (PageBoundaries X Y f top l p) (HomologyPart X Y W f g l)
      (converse (HasLeadingTerm X Y W f g l p))
  HasLeadingTerm-classes_back top =
      linked-classes_back Y.group Y.group (λ v. v) (λ v. v) (FallsTo Y W g p 0) (BoundariesOf X Y f)
      (HomologyPart X Y W f g l) (Y.part l) (PageBoundaries X Y f top l p) (BoundariesOf-sub X Y f first) (Y.sub l)
      (HomologyPart-sub X Y W f g complex first second l) (PageBoundaries-sub X Y f first top l p)
      (boundaries-HomologyPart l) (low-PageBoundaries X Y f first top l p) (PageCycles Y W g l p 0) (λ w h. h)
      (boundary-lower top)

-- the lowest part of homology is zero
pub HomologyPart-lowest : {R : Type 0} (X Y W : Filtered R) (f : X.group.V → Y.group.V) (g : Y.group.V → W.group.V)
    → IsFilteredMap X Y f → IsWithin (HomologyPart X Y W f g 0) (BoundariesOf X Y f)
HomologyPart-lowest X Y W f g first u h =
    Mod-inside Y.group (BoundariesOf X Y f) (BoundariesOf-sub X Y f first) u h.0 h.2
    (relations-BoundariesOf X Y f first h.0 h.1.0)

-- a part that has all elements has all cycles
pub HomologyPart-highest : {R : Type 0} (X Y W : Filtered R) (f : X.group.V → Y.group.V) (g : Y.group.V → W.group.V)
    → IsFilteredMap X Y f → (top : ℕ) → ((v : Y.group.V) → Y.part top v) → (u : Y.group.V) → W.part 0 (g u)
    → HomologyPart X Y W f g top u
HomologyPart-highest X Y W f g first top all u cycle =
    (u, (all u, cycle), Mod-refl Y.group (BoundariesOf X Y f) (BoundariesOf-sub X Y f first) u)
