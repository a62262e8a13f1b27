-- The differential of a page as a correspondence. It is a map of classes: an element whose leading term is a boundary
-- differs from an image by something in the next lower part, which has the same image modulo relations.
use Rattle.std.proofs.Common.{ℕ, arith}
use Rattle.sf_algebra.proofs.Operators.Congruences.{Mod-inside, Mod-refl}
use Rattle.sf_algebra.proofs.Operators.Correspondences.{IsCorrespondence, IsMapOfClasses}
use Rattle.sf_algebra.proofs.Operators.GroupMaps.{IsMap-id}
use Rattle.sf_algebra.proofs.Operators.Subgroups.{has_difference}
use Rattle.sf_chase.specs.Filtrations.{FallsTo, Filtered, HasDifferential, IsComplex, IsFilteredMap, PageBoundaries, PageCycles}
use Rattle.sf_chase.proofs.Links.{Mod-image_difference, linked-classes, linked-correspondence}
use Rattle.sf_chase.proofs.Pages.PageGroups.{FallsTo-sub, PageBoundaries-cycles, PageBoundaries-sub, PageCycles-sub, image-FallsTo, low-PageBoundaries}

module _ {R : Type 0} (Y W : Filtered R) (g : Y.group.V → W.group.V) (filtered : IsFilteredMap Y W g) (l p k s : ℕ) where
  -- its values are cycles of the page
  pub HasDifferential-correspondence : (V : Filtered R) (h : W.group.V → V.group.V) → IsFilteredMap W V h
      → IsComplex Y W V g h → (i : ℕ)
      → IsCorrespondence Y.group W.group (PageCycles Y W g l p s) (PageCycles W V h k s i) (HasDifferential Y W g l p k s)
  HasDifferential-correspondence V h next complex i =
      linked-correspondence Y.group Y.group W.group (λ v. v) g (IsMap-id Y.group) filtered.map (FallsTo Y W g p s)
      (Y.part l)
      (PageBoundaries Y W g l k s) (FallsTo-sub Y W g filtered p s) (Y.sub l) (PageBoundaries-sub Y W g filtered l k s)
      (PageCycles Y W g l p s) (PageCycles W V h k s i) (λ u d. d)
      (λ w d. Mod-inside W.group (PageCycles W V h k s i) (PageCycles-sub W V h next k s i) w (g d.0)
      (PageBoundaries-cycles Y W V g h complex l k s i _ d.2)
      (g d.0, image-FallsTo Y W V g h complex s i d.0 d.1.1, Mod-refl W.group (W.part k) (W.sub k) (g d.0)))

  -- what falls to part s and has a boundary as leading term has a boundary as image
  pub image-boundary : (X : Filtered R) (f : X.group.V → Y.group.V) → IsComplex X Y W f g → (t : ℕ) (v : Y.group.V)
      → FallsTo Y W g p s v → PageBoundaries X Y f t l p v → PageBoundaries Y W g l k s (g v)
  image-boundary X f complex t v falls h =
      let image = f h.0 in
      let relation : (i : ℕ) → W.part i (g image) = λ i. W.rises 0 i (omega arith) (g image) (complex h.0) in
      let less = Y.group.plus v (Y.group.minus image) in
      let less_falls = has_difference Y.group (FallsTo Y W g p s) (FallsTo-sub Y W g filtered p s) v image falls
      (h.1.1, relation s) in (
        less,
        (h.2, less_falls.1),
        Mod-image_difference Y.group W.group g filtered.map (W.part k) (W.sub k) v image
            (relation k),
      )

  pub HasDifferential-classes : (X : Filtered R) (f : X.group.V → Y.group.V) → IsFilteredMap X Y f → IsComplex X Y W f g
      → (t : ℕ)
      → IsMapOfClasses (PageCycles Y W g l p s) (PageBoundaries X Y f t l p) (PageBoundaries Y W g l k s)
      (HasDifferential Y W g l p k s)
  HasDifferential-classes X f before complex t =
      linked-classes Y.group W.group (λ v. v) g (FallsTo Y W g p s) (Y.part l) (PageBoundaries X Y f t l p)
      (PageBoundaries Y W g l k s) (PageBoundaries Y W g l k s) (Y.sub l) (PageBoundaries-sub Y W g filtered l k s)
      (PageBoundaries-sub X Y f before t l p) (PageBoundaries-sub Y W g filtered l k s)
      (low-PageBoundaries X Y f before t l p) (λ w h. h) (PageCycles Y W g l p s) (λ u d. d)
      (image-boundary X f complex t)
