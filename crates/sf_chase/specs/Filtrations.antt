-- Filtered groups, the pages of a complex of them, the differentials of the pages and the filtration of homology. The
-- relations are the lowest part, so all holds modulo relations, and that two elements have the same leading term is
-- equality modulo the next lower part. (Weibel, "An Introduction to Homological Algebra", sections 5.4 and 5.5.)
use Rattle.std.specs.Prelude.{ℕ, ◌≤◌}
use Rattle.sf_algebra.specs.Groups.{Group, IsSub, IsMap, Mod, IsWithin, Whole}

-- the elements that are equal modulo N to the image of one of M
abbrev pub NearImageOf : {R V : Type 0} (H : Group R) → (V → H.V) → (V → Type 0) → (H.V → Type 0) → H.V → Type 0
NearImageOf {V = V} H f M N w = (v : V) × M v × Mod H N w (f v)

-- u and w are linked by an element of M: u is equal to its image under f modulo B, and w to that under g modulo A
abbrev pub AreLinked : {R V : Type 0} (G H : Group R) → (V → G.V) → (V → H.V) → (V → Type 0) → (G.V → Type 0)
    → (H.V → Type 0) → G.V → H.V → Type 0
AreLinked {V = V} G H f g M B A u w = (v : V) × M v × Mod G B u (f v) × Mod H A w (g v)

-- a group with rising subgroups, of which the lowest has the relations
pub record Filtered (R : Type 0) : Type 1 where
  pub group : Group R
  pub part : ℕ → group.V → Type 0
  pub sub : (p : ℕ) → IsSub group (part p)
  pub rises : (i j : ℕ) → i ≤ j → IsWithin (part i) (part j)

-- f is a map that keeps each part
pub record IsFilteredMap {R : Type 0} (X Y : Filtered R) (f : X.group.V → Y.group.V) : Type 0 where
  pub map : IsMap X.group Y.group f
  pub keeps : (p : ℕ) (v : X.group.V) → X.part p v → Y.part p (f v)

-- one map after the other gives relations
abbrev pub IsComplex : {R : Type 0} (X Y W : Filtered R) → (X.group.V → Y.group.V) → (Y.group.V → W.group.V) → Type 0
IsComplex X Y W f g = (v : X.group.V) → W.part 0 (g (f v))

-- the elements of part p whose images are in part s
abbrev pub FallsTo : {R : Type 0} (X Y : Filtered R) → (X.group.V → Y.group.V) → (p s : ℕ) → X.group.V → Type 0
FallsTo X Y f p s v = X.part p v × Y.part s (f v)

-- cycles of a page between the parts l and p: leading terms of elements that fall to part s
abbrev pub PageCycles : {R : Type 0} (X Y : Filtered R) → (X.group.V → Y.group.V) → (l p s : ℕ) → X.group.V → Type 0
PageCycles X Y f l p s = NearImageOf X.group (λ v. v) (FallsTo X Y f p s) (X.part l)

-- boundaries of a page between the parts l and p: leading terms of images of part t
abbrev pub PageBoundaries : {R : Type 0} (X Y : Filtered R) → (X.group.V → Y.group.V) → (t l p : ℕ) → Y.group.V → Type 0
PageBoundaries X Y f t l p = NearImageOf Y.group f (FallsTo X Y f t p) (Y.part l)

-- w stands for the differential of u: it is equal, modulo boundaries of the page between the parts k and s, to the
-- image of an element with the leading term u that falls to part s
abbrev pub HasDifferential : {R : Type 0} (X Y : Filtered R) → (X.group.V → Y.group.V) → (l p k s : ℕ) → X.group.V
    → Y.group.V → Type 0
HasDifferential X Y f l p k s u w =
    AreLinked X.group Y.group (λ v. v) f (FallsTo X Y f p s) (X.part l) (PageBoundaries X Y f l k s) u w

-- images modulo relations
abbrev pub BoundariesOf : {R : Type 0} (X Y : Filtered R) → (X.group.V → Y.group.V) → Y.group.V → Type 0
BoundariesOf X Y f = NearImageOf Y.group f Whole (Y.part 0)

-- part p of the homology between f and g: what is equal modulo boundaries to a cycle in part p
abbrev pub HomologyPart : {R : Type 0} (X Y W : Filtered R) → (X.group.V → Y.group.V) → (Y.group.V → W.group.V)
    → (p : ℕ) → Y.group.V → Type 0
HomologyPart X Y W f g p = NearImageOf Y.group (λ v. v) (FallsTo Y W g p 0) (BoundariesOf X Y f)

-- w is a leading term of u: that of a cycle in part p which is equal to u modulo boundaries
abbrev pub HasLeadingTerm : {R : Type 0} (X Y W : Filtered R) → (X.group.V → Y.group.V) → (Y.group.V → W.group.V)
    → (l p : ℕ) → Y.group.V → Y.group.V → Type 0
HasLeadingTerm X Y W f g l p u w =
    AreLinked Y.group Y.group (λ v. v) (λ v. v) (FallsTo Y W g p 0) (BoundariesOf X Y f) (Y.part l) u w
