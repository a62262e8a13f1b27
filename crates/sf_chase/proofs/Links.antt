-- Elements linked by a third one. All correspondences of this crate are such: sums, negatives and multiples of links
-- are links, and the links are a map of classes where the third element's image is zero if its other image is.
use Rattle.std.proofs.Common.{◌≡◌, sym, ◌∙◌, ap, subst}
use Rattle.sf_algebra.specs.Groups.{Group, IsSub, IsMap, Mod, IsWithin}
use Rattle.sf_algebra.proofs.Operators.Congruences.{Mod-act, Mod-add, Mod-inside, Mod-minus, Mod-plus, Mod-refl, Mod-sym, Mod-within}
use Rattle.sf_algebra.proofs.Operators.Correspondences.{IsCorrespondence, IsMapOfClasses, converse}
use Rattle.sf_algebra.proofs.Operators.Groups.{map-difference, map-minus, minus-plus}
use Rattle.sf_chase.specs.Filtrations.{AreLinked, NearImageOf}

-- two elements taken away are their sum taken away
pub difference-less : {R : Type 0} (G : Group R) (u v w : G.V)
    → G.plus (G.plus u (G.minus v)) (G.minus w) ≡ G.plus u (G.minus (G.plus v w))
difference-less G u v w = G.assoc u (G.minus v) (G.minus w) ∙ ap (G.plus u) (sym (minus-plus G v w))

-- w is equal modulo N to the image of u, after what is done to u and w alike
module _ {R : Type 0} (G H : Group R) (f : G.V → H.V) (map : IsMap G H f) (N : H.V → Type 0) (n : IsSub H N) where
  pub Mod-image_plus : (u v : G.V) (w x : H.V) → Mod H N w (f u) → Mod H N x (f v)
      → Mod H N (H.plus w x) (f (G.plus u v))
  Mod-image_plus u v w x h k = subst (Mod H N (H.plus w x)) (sym (map.to_plus u v)) (Mod-plus H N n w x (f u) (f v) h k)

  pub Mod-image_minus : (u : G.V) (w : H.V) → Mod H N w (f u) → Mod H N (H.minus w) (f (G.minus u))
  Mod-image_minus u w h = subst (Mod H N (H.minus w)) (sym (map-minus G H f map u)) (Mod-minus H N n w (f u) h)

  pub Mod-image_act : (r : R) (u : G.V) (w : H.V) → Mod H N w (f u) → Mod H N (H.act r w) (f (G.act r u))
  Mod-image_act r u w h = subst (Mod H N (H.act r w)) (sym (map.to_act r u)) (Mod-act H N n r w (f u) h)

  -- and if u is made smaller by an element that goes into N
  pub Mod-image_difference : (u v : G.V) → N (f v) → Mod H N (f u) (f (G.plus u (G.minus v)))
  Mod-image_difference u v h =
      Mod-sym H N n (f (G.plus u (G.minus v))) (f u)
      (subst (λ w. Mod H N w (f u)) (sym (map-difference G H f map u v))
      (Mod-add H N n (f u) (H.minus (f v)) (n.has_minus (f v) h)))

module _ {R : Type 0} (K G H : Group R) (f : K.V → G.V) (g : K.V → H.V) (first : IsMap K G f) (second : IsMap K H g)
    (M : K.V → Type 0) (B : G.V → Type 0) (A : H.V → Type 0) (m : IsSub K M) (b : IsSub G B) (a : IsSub H A) where
  pub linked-correspondence : (Z : G.V → Type 0) (Y : H.V → Type 0) → IsWithin (NearImageOf G f M B) Z
      → IsWithin (NearImageOf H g M A) Y → IsCorrespondence G H Z Y (AreLinked G H f g M B A)
  linked-correspondence Z Y left right = record {
    first = λ u w h. left u (h.0, h.1, h.2);
    second = λ u w h. right w (h.0, h.1, h.3);
    sums = λ u v w x h k. (
      K.plus h.0 k.0,
      m.has_plus h.0 k.0 h.1 k.1,
      Mod-image_plus K G f first B b h.0 k.0 u v h.2 k.2,
      Mod-image_plus K H g second A a h.0 k.0 w x h.3 k.3,
    );
    negatives = λ u w h. (
      K.minus h.0,
      m.has_minus h.0 h.1,
      Mod-image_minus K G f first B b h.0 u h.2,
      Mod-image_minus K H g second A a h.0 w h.3,
    );
    multiples = λ r u w h. (
      K.act r h.0,
      m.has_act r h.0 h.1,
      Mod-image_act K G f first B b r h.0 u h.2,
      Mod-image_act K H g second A a r h.0 w h.3,
    );
  }

module _ {R V : Type 0} (G H : Group R) (f : V → G.V) (g : V → H.V) (M : V → Type 0) (B C : G.V → Type 0)
    (A D : H.V → Type 0) (b : IsSub G B) (a : IsSub H A) (c : IsSub G C) (d : IsSub H D) (larger : IsWithin B C)
    (also_larger : IsWithin A D) where
  pub linked-classes : (Z : G.V → Type 0) → IsWithin Z (NearImageOf G f M B) → ((v : V) → M v → C (f v) → D (g v))
      → IsMapOfClasses Z C D (AreLinked G H f g M B A)
  linked-classes Z near zero = record {
    image = λ u h. g (near u h).0;
    related = λ u h. let n = near u h in (n.0, n.1, n.2, Mod-refl H A a (g n.0));
    zero = λ u w h k. Mod-inside H D d w (g h.0) (Mod-within H A D also_larger w (g h.0) h.3)
        (zero h.0 h.1 (Mod-inside G C c (f h.0) u (Mod-sym G C c u (f h.0) (Mod-within G B C larger u (f h.0) h.2)) k));
  }

  -- the other way round
  pub linked-classes_back : (Y : H.V → Type 0) → IsWithin Y (NearImageOf H g M A)
      → ((v : V) → M v → D (g v) → C (f v)) → IsMapOfClasses Y D C (converse (AreLinked G H f g M B A))
  linked-classes_back Y near zero = record {
    image = λ w h. f (near w h).0;
    related = λ w h. let n = near w h in (n.0, n.1, Mod-refl G B b (f n.0), n.2);
    zero = λ w u h k. Mod-inside G C c u (f h.0) (Mod-within G B C larger u (f h.0) h.2)
        (zero h.0 h.1 (Mod-inside H D d (g h.0) w (Mod-sym H D d w (g h.0)
        (Mod-within H A D also_larger w (g h.0) h.3)) k));
  }

-- a correspondence taken along a map
pub correspondence-along : {R : Type 0} (K G H : Group R) (k : K.V → G.V) → IsMap K G k → (Z : G.V → Type 0)
    (Y : H.V → Type 0) (F : G.V → H.V → Type 0) → IsCorrespondence G H Z Y F
    → IsCorrespondence K H (λ c. Z (k c)) Y (λ c w. F (k c) w)
correspondence-along K G H k map Z Y F f = record {
  first = λ c w h. f.first (k c) w h;
  second = λ c w h. f.second (k c) w h;
  sums = λ c d w x h i. subst (λ u. F u (H.plus w x)) (sym (map.to_plus c d)) (f.sums (k c) (k d) w x h i);
  negatives = λ c w h. subst (λ u. F u (H.minus w)) (sym (map-minus K G k map c)) (f.negatives (k c) w h);
  multiples = λ r c w h. subst (λ u. F u (H.act r w)) (sym (map.to_act r c)) (f.multiples r (k c) w h);
}

-- larger subgroups
pub correspondence-within : {R : Type 0} (G H : Group R) (Z X : G.V → Type 0) (Y W : H.V → Type 0)
    (F : G.V → H.V → Type 0) → IsWithin Z X → IsWithin Y W → IsCorrespondence G H Z Y F → IsCorrespondence G H X W F
correspondence-within G H Z X Y W F left right f = record {
  first = λ u w h. left u (f.first u w h);
  second = λ u w h. right w (f.second u w h);
  sums = f.sums;
  negatives = f.negatives;
  multiples = f.multiples;
}

-- fewer elements, fewer of them zero, and more values zero
pub classes-within : {U V : Type 0} (Z X B C : U → Type 0) (A D : V → Type 0) (F : U → V → Type 0) → IsWithin X Z
    → IsWithin C B → IsWithin A D → IsMapOfClasses Z B A F → IsMapOfClasses X C D F
classes-within Z X B C A D F fewer zeros more m = record {
  image = λ u h. m.image u (fewer u h);
  related = λ u h. m.related u (fewer u h);
  zero = λ u w h k. more w (m.zero u w h (zeros u k));
}
