-- Equality modulo a subgroup: an equivalence that sums, negatives, operators and maps keep.
use Rattle.std.proofs.Common.{◌≡◌, sym, ◌∙◌, ap, subst}
use Rattle.sf_algebra.specs.Groups.{Group, IsSub, IsMap, Mod, IsWithin, ZeroOf, PreimageOf, SumOf}
use Rattle.sf_algebra.proofs.Operators.Groups.{minus-minus, minus-plus, difference-zero, minus-difference, difference-difference, plus-difference, difference-plus, plus-difference_first, difference-equal, act-difference, map-difference}

module _ {R : Type 0} (G : Group R) (N : G.V → Type 0) (sub : IsSub G N) where
  pub Mod-refl : (u : G.V) → Mod G N u u
  Mod-refl u = subst N (sym (G.inverse u)) sub.has_zero

  pub Mod-sym : (u v : G.V) → Mod G N u v → Mod G N v u
  Mod-sym u v h = subst N (minus-difference G u v) (sub.has_minus (G.plus u (G.minus v)) h)

  pub Mod-trans : (u v w : G.V) → Mod G N u v → Mod G N v w → Mod G N u w
  Mod-trans u v w h k =
      subst N (difference-difference G u v w) (sub.has_plus (G.plus u (G.minus v)) (G.plus v (G.minus w)) h k)

  -- equal elements
  pub Mod-equal : (u v : G.V) → u ≡ v → Mod G N u v
  Mod-equal u v e = subst (λ w. Mod G N u w) e (Mod-refl u)

  pub Mod-plus : (u v w x : G.V) → Mod G N u w → Mod G N v x → Mod G N (G.plus u v) (G.plus w x)
  Mod-plus u v w x h k =
      subst N (sym (plus-difference G u v w x)) (sub.has_plus (G.plus u (G.minus w)) (G.plus v (G.minus x)) h k)

  pub Mod-minus : (u v : G.V) → Mod G N u v → Mod G N (G.minus u) (G.minus v)
  Mod-minus u v h =
      subst N (minus-difference G u v ∙ (λ i. G.plus (sym (minus-minus G v) i) (G.minus u)) ∙ G.comm (G.minus (G.minus v)) (G.minus u)) (sub.has_minus (G.plus u (G.minus v)) h)

  pub Mod-act : (r : R) (u v : G.V) → Mod G N u v → Mod G N (G.act r u) (G.act r v)
  Mod-act r u v h = subst N (act-difference G r u v) (sub.has_act r (G.plus u (G.minus v)) h)

  pub Mod-difference : (u v w x : G.V) → Mod G N u w → Mod G N v x
      → Mod G N (G.plus u (G.minus v)) (G.plus w (G.minus x))
  Mod-difference u v w x h k = Mod-plus u (G.minus v) w (G.minus x) h (Mod-minus v x k)

  -- the elements of N are those that are zero modulo N
  pub Mod-zero : (u : G.V) → N u → Mod G N u G.zero
  Mod-zero u h = subst N (sym (difference-zero G u)) h

  pub Mod-from_zero : (u : G.V) → Mod G N u G.zero → N u
  Mod-from_zero u h = subst N (difference-zero G u) h

  -- an element equal to one of N modulo N
  pub Mod-inside : (u v : G.V) → Mod G N u v → N v → N u
  Mod-inside u v h k = subst N (difference-plus G u v) (sub.has_plus (G.plus u (G.minus v)) v h k)

  -- an element of N may be added
  pub Mod-add : (u v : G.V) → N v → Mod G N (G.plus u v) u
  Mod-add u v h = subst N (sym (plus-difference_first G u v)) h

-- equality modulo a part is equality modulo the whole
pub Mod-within : {R : Type 0} (G : Group R) (M N : G.V → Type 0) → IsWithin M N → (u v : G.V) → Mod G M u v
    → Mod G N u v
Mod-within G M N within u v h = within (G.plus u (G.minus v)) h

-- an element that is equal modulo a part to one of a subgroup is one of it
pub Mod-part_inside : {R : Type 0} (G : Group R) (M N : G.V → Type 0) → IsSub G N → IsWithin M N → (u v : G.V)
    → Mod G M u v → N v → N u
Mod-part_inside G M N sub within u v h k = Mod-inside G N sub u v (Mod-within G M N within u v h) k

-- modulo zero alone only equal elements are equal
pub Mod-ZeroOf : {R : Type 0} (G : Group R) (u v : G.V) → Mod G (ZeroOf G) u v → u ≡ v
Mod-ZeroOf G u v h = difference-equal G u v h

-- equal modulo a sum: an element of the first part may be added so that they are equal modulo the second
pub Mod-SumOf : {R : Type 0} (G : Group R) (M N : G.V → Type 0) → (u v : G.V) → Mod G (SumOf G M N) u v
    → (m : G.V) × M m × Mod G N u (G.plus v m)
Mod-SumOf G M N u v h =
    let apart : G.plus u (G.minus (G.plus v h.0)) ≡ h.1 =
    ap (G.plus u) (minus-plus G v h.0)
    ∙ sym (G.assoc u (G.minus v) (G.minus h.0))
    ∙ ap (λ x. G.plus x (G.minus h.0)) (sym h.4)
    ∙ plus-difference_first G h.0 h.1 in
    (h.0, h.2, subst N (sym apart) h.3)

module _ {R : Type 0} (G H : Group R) (f : G.V → H.V) (map : IsMap G H f) where
  -- a map takes elements equal modulo M to elements equal modulo N, where it takes M into N
  pub Mod-map : (M : G.V → Type 0) (N : H.V → Type 0) → IsWithin M (PreimageOf f N) → (u v : G.V) → Mod G M u v
      → Mod H N (f u) (f v)
  Mod-map M N within u v h = subst N (map-difference G H f map u v) (within (G.plus u (G.minus v)) h)

  -- the elements equal modulo a preimage are those whose images are equal
  pub Mod-PreimageOf : (N : H.V → Type 0) (u v : G.V) → Mod H N (f u) (f v) → Mod G (PreimageOf f N) u v
  Mod-PreimageOf N u v h = subst N (sym (map-difference G H f map u v)) h
