-- Elements near an image: equal modulo N to the image of an element of M.
use Rattle.std.proofs.Common.{◌≡◌, sym, subst}
use Rattle.sf_algebra.specs.Groups.{Group, IsSub, IsMap, Mod, IsWithin, PreimageOf}
use Rattle.sf_algebra.proofs.Operators.Congruences.{Mod-act, Mod-equal, Mod-inside, Mod-map, Mod-minus, Mod-plus, Mod-refl, Mod-trans, Mod-within, Mod-zero}
use Rattle.sf_algebra.proofs.Operators.Groups.{map-minus, map-zero}
use Rattle.sf_chase.specs.Filtrations.{NearImageOf}

module _ {R : Type 0} (G H : Group R) (f : G.V → H.V) (map : IsMap G H f) (M : G.V → Type 0) (N : H.V → Type 0)
    (m : IsSub G M) (n : IsSub H N) where
  pub NearImageOf-sub : IsSub H (NearImageOf H f M N)
  NearImageOf-sub = record {
    has_zero = (G.zero, m.has_zero, Mod-equal H N n H.zero (f G.zero) (sym (map-zero G H f map)));
    has_plus = λ u v h k. (
      G.plus h.0 k.0,
      m.has_plus h.0 k.0 h.1 k.1,
      subst (Mod H N (H.plus u v)) (sym (map.to_plus h.0 k.0)) (Mod-plus H N n u v (f h.0) (f k.0) h.2 k.2),
    );
    has_minus = λ u h. (
      G.minus h.0,
      m.has_minus h.0 h.1,
      subst (Mod H N (H.minus u)) (sym (map-minus G H f map h.0)) (Mod-minus H N n u (f h.0) h.2),
    );
    has_act = λ r u h. (
      G.act r h.0,
      m.has_act r h.0 h.1,
      subst (Mod H N (H.act r u)) (sym (map.to_act r h.0)) (Mod-act H N n r u (f h.0) h.2),
    );
  }

  -- what is zero modulo N is near
  pub NearImageOf-zero : IsWithin N (NearImageOf H f M N)
  NearImageOf-zero w h = (
    G.zero,
    m.has_zero,
    Mod-trans H N n w H.zero (f G.zero) (Mod-zero H N n w h)
        (Mod-equal H N n H.zero (f G.zero) (sym (map-zero G H f map))),
  )

-- an image is near
pub NearImageOf-image : {R V : Type 0} (H : Group R) (f : V → H.V) (M : V → Type 0) (N : H.V → Type 0) → IsSub H N
    → (v : V) → M v → NearImageOf H f M N (f v)
NearImageOf-image H f M N n v h = (v, h, Mod-refl H N n (f v))

-- and so is what is equal to a near element modulo N
pub NearImageOf-Mod : {R V : Type 0} (H : Group R) (f : V → H.V) (M : V → Type 0) (N : H.V → Type 0) → IsSub H N
    → (u w : H.V) → Mod H N u w → NearImageOf H f M N w → NearImageOf H f M N u
NearImageOf-Mod H f M N n u w e h = (h.0, h.1, Mod-trans H N n u w (f h.0) e h.2)

-- larger subgroups have more near elements
pub NearImageOf-mono : {R V : Type 0} (H : Group R) (f : V → H.V) (K M : V → Type 0) (L N : H.V → Type 0)
    → IsWithin K M → IsWithin L N → IsWithin (NearImageOf H f K L) (NearImageOf H f M N)
NearImageOf-mono H f K M L N first second w h = (h.0, first h.0 h.1, Mod-within H L N second w (f h.0) h.2)

-- near elements stay in a subgroup that has the images and N
pub NearImageOf-within : {R V : Type 0} (H : Group R) (f : V → H.V) (M : V → Type 0) (N L : H.V → Type 0) → IsSub H L
    → IsWithin M (PreimageOf f L) → IsWithin N L → IsWithin (NearImageOf H f M N) L
NearImageOf-within H f M N L sub images within w h =
    Mod-inside H L sub w (f h.0) (Mod-within H N L within w (f h.0) h.2) (images h.0 h.1)

-- maps that pass f take near elements to near elements
pub NearImageOf-natural : {R U V : Type 0} (G H : Group R) (f : U → G.V) (g : V → H.V) (K : U → Type 0)
    (L : G.V → Type 0) (M : V → Type 0) (N : H.V → Type 0) (from : U → V) (to : G.V → H.V) → IsMap G H to
    → ((u : U) → to (f u) ≡ g (from u)) → IsWithin K (PreimageOf from M) → IsWithin L (PreimageOf to N) → (w : G.V)
    → NearImageOf G f K L w → NearImageOf H g M N (to w)
NearImageOf-natural G H f g K L M N from to map passes first second w h = (
  from h.0,
  first h.0 h.1,
  subst (Mod H N (to w)) (passes h.0) (Mod-map G H to map L N second w (f h.0) h.2),
)
