-- Cycles and boundaries of the pages are subgroups; the cycles fall, the boundaries grow, and boundaries are cycles.
use Rattle.std.proofs.Common.{ℕ, ◌≤◌, arith}
use Rattle.sf_algebra.specs.Groups.{IsSub, IsWithin, Whole}
use Rattle.sf_algebra.proofs.Operators.GroupMaps.{IsMap-id}
use Rattle.sf_algebra.proofs.Operators.Subgroups.{BothOf-sub, PreimageOf-sub, Whole-sub}
use Rattle.sf_chase.specs.Filtrations.{BoundariesOf, FallsTo, Filtered, HomologyPart, IsComplex, IsFilteredMap, PageBoundaries, PageCycles}
use Rattle.sf_chase.proofs.Images.{NearImageOf-mono, NearImageOf-sub, NearImageOf-zero}

module _ {R : Type 0} (X Y : Filtered R) (f : X.group.V → Y.group.V) (filtered : IsFilteredMap X Y f) where
  pub FallsTo-sub : (p s : ℕ) → IsSub X.group (FallsTo X Y f p s)
  FallsTo-sub p s =
      BothOf-sub X.group (X.part p) (λ v. Y.part s (f v)) (X.sub p)
      (PreimageOf-sub X.group Y.group f filtered.map (Y.part s) (Y.sub s))

  pub FallsTo-mono : (p q s t : ℕ) → p ≤ q → s ≤ t → IsWithin (FallsTo X Y f p s) (FallsTo X Y f q t)
  FallsTo-mono p q s t first second v h = (X.rises p q first v h.0, Y.rises s t second (f v) h.1)

  pub PageCycles-sub : (l p s : ℕ) → IsSub X.group (PageCycles X Y f l p s)
  PageCycles-sub l p s =
      NearImageOf-sub X.group X.group (λ v. v) (IsMap-id X.group) (FallsTo X Y f p s) (X.part l) (FallsTo-sub p s)
      (X.sub l)

  pub PageBoundaries-sub : (t l p : ℕ) → IsSub Y.group (PageBoundaries X Y f t l p)
  PageBoundaries-sub t l p =
      NearImageOf-sub X.group Y.group f filtered.map (FallsTo X Y f t p) (Y.part l) (FallsTo-sub t p) (Y.sub l)

  pub BoundariesOf-sub : IsSub Y.group (BoundariesOf X Y f)
  BoundariesOf-sub = NearImageOf-sub X.group Y.group f filtered.map Whole (Y.part 0) (Whole-sub X.group) (Y.sub 0)

  -- fewer elements fall further
  pub PageCycles-fall : (l p s t : ℕ) → s ≤ t → IsWithin (PageCycles X Y f l p s) (PageCycles X Y f l p t)
  PageCycles-fall l p s t falls =
      NearImageOf-mono X.group (λ v. v) (FallsTo X Y f p s) (FallsTo X Y f p t) (X.part l) (X.part l)
      (FallsTo-mono p p s t (omega arith) falls) (λ v h. h)

  -- a higher part has more images
  pub PageBoundaries-grow : (s t l p : ℕ) → s ≤ t → IsWithin (PageBoundaries X Y f s l p) (PageBoundaries X Y f t l p)
  PageBoundaries-grow s t l p grows =
      NearImageOf-mono Y.group f (FallsTo X Y f s p) (FallsTo X Y f t p) (Y.part l) (Y.part l)
      (FallsTo-mono s t p p grows (omega arith)) (λ v h. h)

  -- from a part on that has all elements, nothing more is a boundary
  pub PageBoundaries-last : (top t l p : ℕ) → ((v : X.group.V) → X.part top v)
      → IsWithin (PageBoundaries X Y f t l p) (PageBoundaries X Y f top l p)
  PageBoundaries-last top t l p all w h = (h.0, (all h.0, h.1.1), h.2)

  -- cycles and boundaries both have what is lower
  pub low-PageCycles : (l p s : ℕ) → IsWithin (X.part l) (PageCycles X Y f l p s)
  low-PageCycles l p s =
      NearImageOf-zero X.group X.group (λ v. v) (IsMap-id X.group) (FallsTo X Y f p s) (X.part l) (FallsTo-sub p s)
      (X.sub l)

  pub low-PageBoundaries : (t l p : ℕ) → IsWithin (Y.part l) (PageBoundaries X Y f t l p)
  low-PageBoundaries t l p =
      NearImageOf-zero X.group Y.group f filtered.map (FallsTo X Y f t p) (Y.part l) (FallsTo-sub t p) (Y.sub l)

  pub relations-BoundariesOf : IsWithin (Y.part 0) (BoundariesOf X Y f)
  relations-BoundariesOf =
      NearImageOf-zero X.group Y.group f filtered.map Whole (Y.part 0) (Whole-sub X.group) (Y.sub 0)

module _ {R : Type 0} (X Y W : Filtered R) (f : X.group.V → Y.group.V) (g : Y.group.V → W.group.V)
    (complex : IsComplex X Y W f g) where
  -- an image falls as far as one likes
  pub image-FallsTo : (p s : ℕ) (v : X.group.V) → Y.part p (f v) → FallsTo Y W g p s (f v)
  image-FallsTo p s v h = (h, W.rises 0 s (omega arith) (g (f v)) (complex v))

  -- boundaries are cycles
  pub PageBoundaries-cycles : (t l p s : ℕ) → IsWithin (PageBoundaries X Y f t l p) (PageCycles Y W g l p s)
  PageBoundaries-cycles t l p s w h = (f h.0, image-FallsTo p s h.0 h.1.1, h.2)

  module _ (first : IsFilteredMap X Y f) (second : IsFilteredMap Y W g) where
    pub HomologyPart-sub : (p : ℕ) → IsSub Y.group (HomologyPart X Y W f g p)
    HomologyPart-sub p =
        NearImageOf-sub Y.group Y.group (λ v. v) (IsMap-id Y.group) (FallsTo Y W g p 0) (BoundariesOf X Y f)
        (FallsTo-sub Y W g second p 0) (BoundariesOf-sub X Y f first)

  -- parts of homology rise
  pub HomologyPart-rises : (p q : ℕ) → p ≤ q → IsWithin (HomologyPart X Y W f g p) (HomologyPart X Y W f g q)
  HomologyPart-rises p q rises =
      NearImageOf-mono Y.group (λ v. v) (FallsTo Y W g p 0) (FallsTo Y W g q 0) (BoundariesOf X Y f) (BoundariesOf X Y f)
      (λ v h. (Y.rises p q rises v h.0, h.1)) (λ v h. h)
