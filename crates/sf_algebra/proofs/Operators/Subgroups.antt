-- Subgroups: sums, images and preimages of subgroups are subgroups, and how they lie in one another.
use Rattle.std.proofs.Common.{◌≡◌, refl, sym, ◌∙◌, ap, subst}
use Rattle.sf_algebra.specs.Groups.{Group, IsSub, IsMap, IsWithin, Whole, ZeroOf, ImageOf, PreimageOf, KernelOf, BothOf, SumOf}
use Rattle.sf_algebra.proofs.Operators.Groups.{unit_first, exchange, minus-zero, minus-plus, act-zero, map-zero, map-minus}

module _ {R : Type 0} (G : Group R) where
  pub Whole-sub : IsSub G Whole
  Whole-sub = record { has_zero = tt; has_plus = λ u v h k. tt; has_minus = λ u h. tt; has_act = λ r u h. tt }

  pub ZeroOf-sub : IsSub G (ZeroOf G)
  ZeroOf-sub = record {
    has_zero = refl;
    has_plus = λ u v h k. (λ i. G.plus (h i) (k i)) ∙ G.unit G.zero;
    has_minus = λ u h. ap G.minus h ∙ minus-zero G;
    has_act = λ r u h. ap (G.act r) h ∙ act-zero G r;
  }

  module _ (N : G.V → Type 0) (sub : IsSub G N) where
    pub has_difference : (u v : G.V) → N u → N v → N (G.plus u (G.minus v))
    has_difference u v h k = sub.has_plus u (G.minus v) h (sub.has_minus v k)

    -- an element equal to one of N
    pub has_equal : (u v : G.V) → u ≡ v → N u → N v
    has_equal u v e h = subst N e h

    pub ZeroOf-within : IsWithin (ZeroOf G) N
    ZeroOf-within v e = subst N (sym e) sub.has_zero

  -- a predicate that the same elements meet
  pub same-sub : (M N : G.V → Type 0) → IsWithin M N → IsWithin N M → IsSub G M → IsSub G N
  same-sub M N into back sub = record {
    has_zero = into G.zero sub.has_zero;
    has_plus = λ u v h k. into (G.plus u v) (sub.has_plus u v (back u h) (back v k));
    has_minus = λ u h. into (G.minus u) (sub.has_minus u (back u h));
    has_act = λ r u h. into (G.act r u) (sub.has_act r u (back u h));
  }

  module _ (M N : G.V → Type 0) (m : IsSub G M) (n : IsSub G N) where
    pub BothOf-sub : IsSub G (BothOf M N)
    BothOf-sub = record {
      has_zero = (m.has_zero, n.has_zero);
      has_plus = λ u v h k. (m.has_plus u v h.0 k.0, n.has_plus u v h.1 k.1);
      has_minus = λ u h. (m.has_minus u h.0, n.has_minus u h.1);
      has_act = λ r u h. (m.has_act r u h.0, n.has_act r u h.1);
    }

    pub SumOf-sub : IsSub G (SumOf G M N)
    SumOf-sub = record {
      has_zero = (G.zero, G.zero, m.has_zero, n.has_zero, G.unit G.zero);
      has_plus = λ u v h k. (
        G.plus h.0 k.0,
        G.plus h.1 k.1,
        m.has_plus h.0 k.0 h.2 k.2,
        n.has_plus h.1 k.1 h.3 k.3,
        exchange G h.0 k.0 h.1 k.1 ∙ (λ i. G.plus (h.4 i) (k.4 i)),
      );
      has_minus = λ u h. (G.minus h.0, G.minus h.1, m.has_minus h.0 h.2, n.has_minus h.1 h.3, sym (minus-plus G h.0 h.1) ∙ ap G.minus h.4);
      has_act = λ r u h. (G.act r h.0, G.act r h.1, m.has_act r h.0 h.2, n.has_act r h.1 h.3, sym (G.act_plus r h.0 h.1) ∙ ap (G.act r) h.4);
    }

    pub within-SumOf_first : IsWithin M (SumOf G M N)
    within-SumOf_first v h = (v, G.zero, h, n.has_zero, G.unit v)

    pub within-SumOf_second : IsWithin N (SumOf G M N)
    within-SumOf_second v h = (G.zero, v, m.has_zero, h, unit_first G v)

  -- a sum of subgroups lies in each subgroup in which they lie
  pub SumOf-within : (M N L : G.V → Type 0) → IsSub G L → IsWithin M L → IsWithin N L → IsWithin (SumOf G M N) L
  SumOf-within M N L sub first second v h = subst L h.4 (sub.has_plus h.0 h.1 (first h.0 h.2) (second h.1 h.3))

  -- sums of what lies in larger parts
  pub SumOf-mono : (M N K L : G.V → Type 0) → IsWithin M K → IsWithin N L → IsWithin (SumOf G M N) (SumOf G K L)
  SumOf-mono M N K L first second v h = (h.0, h.1, first h.0 h.2, second h.1 h.3, h.4)

module _ {R : Type 0} (G H : Group R) (f : G.V → H.V) (map : IsMap G H f) where
  pub ImageOf-sub : (N : G.V → Type 0) → IsSub G N → IsSub H (ImageOf f N)
  ImageOf-sub N sub = record {
    has_zero = (G.zero, sub.has_zero, map-zero G H f map);
    has_plus = λ u v h k. (G.plus h.0 k.0, sub.has_plus h.0 k.0 h.1 k.1, map.to_plus h.0 k.0 ∙ (λ i. H.plus (h.2 i) (k.2 i)));
    has_minus = λ u h. (G.minus h.0, sub.has_minus h.0 h.1, map-minus G H f map h.0 ∙ ap H.minus h.2);
    has_act = λ r u h. (G.act r h.0, sub.has_act r h.0 h.1, map.to_act r h.0 ∙ ap (H.act r) h.2);
  }

  pub PreimageOf-sub : (N : H.V → Type 0) → IsSub H N → IsSub G (PreimageOf f N)
  PreimageOf-sub N sub = record {
    has_zero = subst N (sym (map-zero G H f map)) sub.has_zero;
    has_plus = λ u v h k. subst N (sym (map.to_plus u v)) (sub.has_plus (f u) (f v) h k);
    has_minus = λ u h. subst N (sym (map-minus G H f map u)) (sub.has_minus (f u) h);
    has_act = λ r u h. subst N (sym (map.to_act r u)) (sub.has_act r (f u) h);
  }

  pub KernelOf-sub : IsSub G (KernelOf H f)
  KernelOf-sub = PreimageOf-sub (ZeroOf H) (ZeroOf-sub H)

  -- the image of a sum is the sum of the images
  pub ImageOf-SumOf : (M N : G.V → Type 0) → IsWithin (ImageOf f (SumOf G M N)) (SumOf H (ImageOf f M) (ImageOf f N))
  ImageOf-SumOf M N w h =
      let s = h.1 in
      (f s.0, f s.1, (s.0, s.2, refl), (s.1, s.3, refl), sym (map.to_plus s.0 s.1) ∙ ap f s.4 ∙ h.2)

  pub SumOf-ImageOf : (M N : G.V → Type 0) → IsWithin (SumOf H (ImageOf f M) (ImageOf f N)) (ImageOf f (SumOf G M N))
  SumOf-ImageOf M N w h =
      let a = h.2 in
      let b = h.3 in
      (G.plus a.0 b.0, (a.0, b.0, a.1, b.1, refl), map.to_plus a.0 b.0 ∙ (λ i. H.plus (a.2 i) (b.2 i)) ∙ h.4)

-- an image lies in N where what it is the image of lies in the preimage of N
pub ImageOf-within : {V W : Type 0} (f : V → W) (M : V → Type 0) (N : W → Type 0) → IsWithin M (PreimageOf f N)
    → IsWithin (ImageOf f M) N
ImageOf-within f M N within w h = subst N h.2 (within h.0 h.1)

pub within-PreimageOf : {V W : Type 0} (f : V → W) (M : V → Type 0) (N : W → Type 0) → IsWithin (ImageOf f M) N
    → IsWithin M (PreimageOf f N)
within-PreimageOf f M N within v h = within (f v) (v, h, refl)

pub IsWithin-trans : {V : Type 0} (L M N : V → Type 0) → IsWithin L M → IsWithin M N → IsWithin L N
IsWithin-trans L M N h k v l = k v (h v l)
