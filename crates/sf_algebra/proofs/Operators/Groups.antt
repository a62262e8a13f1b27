-- Identities of commutative groups.
use Rattle.std.proofs.Common.{◌≡◌, sym, ◌∙◌, ap}
use Rattle.sf_algebra.specs.Groups.{Group, IsMap}

module _ {R : Type 0} (G : Group R) where
  pub unit_first : (u : G.V) → G.plus G.zero u ≡ u
  unit_first u = G.comm G.zero u ∙ G.unit u

  pub inverse_first : (u : G.V) → G.plus (G.minus u) u ≡ G.zero
  inverse_first u = G.comm (G.minus u) u ∙ G.inverse u

  -- the first terms of a sum may be exchanged
  pub left : (u v w : G.V) → G.plus u (G.plus v w) ≡ G.plus v (G.plus u w)
  left u v w = sym (G.assoc u v w) ∙ ap (λ x. G.plus x w) (G.comm u v) ∙ G.assoc v u w

  -- a sum of sums
  pub exchange : (u v w x : G.V) → G.plus (G.plus u v) (G.plus w x) ≡ G.plus (G.plus u w) (G.plus v x)
  exchange u v w x = simp (G.assoc, left)

  pub plus-minus_plus : (u v : G.V) → G.plus u (G.plus (G.minus u) v) ≡ v
  plus-minus_plus u v = sym (G.assoc u (G.minus u) v) ∙ ap (λ x. G.plus x v) (G.inverse u) ∙ unit_first v

  pub minus-plus_plus : (u v : G.V) → G.plus (G.minus u) (G.plus u v) ≡ v
  minus-plus_plus u v = sym (G.assoc (G.minus u) u v) ∙ ap (λ x. G.plus x v) (inverse_first u) ∙ unit_first v

  -- equal terms may be left out
  pub plus-cancel : (u v w : G.V) → G.plus u v ≡ G.plus u w → v ≡ w
  plus-cancel u v w e = sym (minus-plus_plus u v) ∙ ap (G.plus (G.minus u)) e ∙ minus-plus_plus u w

  -- only the negative gives zero
  pub minus_only : (u v : G.V) → G.plus u v ≡ G.zero → v ≡ G.minus u
  minus_only u v e = plus-cancel u v (G.minus u) (e ∙ sym (G.inverse u))

  pub minus-zero : G.minus G.zero ≡ G.zero
  minus-zero = sym (minus_only G.zero G.zero (G.unit G.zero))

  pub minus-minus : (u : G.V) → G.minus (G.minus u) ≡ u
  minus-minus u = sym (minus_only (G.minus u) u (inverse_first u))

  pub minus-plus : (u v : G.V) → G.minus (G.plus u v) ≡ G.plus (G.minus u) (G.minus v)
  minus-plus u v =
      sym (minus_only (G.plus u v) (G.plus (G.minus u) (G.minus v)) (exchange u v (G.minus u) (G.minus v) ∙ (λ i. G.plus (G.inverse u i) (G.inverse v i)) ∙ G.unit G.zero))

  -- the difference to zero
  pub difference-zero : (u : G.V) → G.plus u (G.minus G.zero) ≡ u
  difference-zero u = ap (G.plus u) minus-zero ∙ G.unit u

  -- the negative of a difference
  pub minus-difference : (u v : G.V) → G.minus (G.plus u (G.minus v)) ≡ G.plus v (G.minus u)
  minus-difference u v = minus-plus u (G.minus v) ∙ ap (G.plus (G.minus u)) (minus-minus v) ∙ G.comm (G.minus u) v

  -- two differences one after the other
  pub difference-difference : (u v w : G.V)
      → G.plus (G.plus u (G.minus v)) (G.plus v (G.minus w)) ≡ G.plus u (G.minus w)
  difference-difference u v w =
      G.assoc u (G.minus v) (G.plus v (G.minus w)) ∙ ap (G.plus u) (minus-plus_plus v (G.minus w))

  -- a difference of sums
  pub plus-difference : (u v w x : G.V)
      → G.plus (G.plus u v) (G.minus (G.plus w x)) ≡ G.plus (G.plus u (G.minus w)) (G.plus v (G.minus x))
  plus-difference u v w x = ap (G.plus (G.plus u v)) (minus-plus w x) ∙ exchange u v (G.minus w) (G.minus x)

  -- a difference and what was taken away
  pub difference-plus : (u v : G.V) → G.plus (G.plus u (G.minus v)) v ≡ u
  difference-plus u v = G.assoc u (G.minus v) v ∙ ap (G.plus u) (inverse_first v) ∙ G.unit u

  -- a sum less its first term
  pub plus-difference_first : (u v : G.V) → G.plus (G.plus u v) (G.minus u) ≡ v
  plus-difference_first u v =
      ap (λ x. G.plus x (G.minus u)) (G.comm u v) ∙ G.assoc v u (G.minus u) ∙ ap (G.plus v) (G.inverse u) ∙ G.unit v

  -- elements with the difference zero are equal
  pub difference-equal : (u v : G.V) → G.plus u (G.minus v) ≡ G.zero → u ≡ v
  difference-equal u v e = sym (difference-plus u v) ∙ ap (λ x. G.plus x v) e ∙ unit_first v

  -- what an additive operation does to zero and negatives
  pub act-zero : (r : R) → G.act r G.zero ≡ G.zero
  act-zero r =
      plus-cancel (G.act r G.zero) (G.act r G.zero) G.zero
      (sym (G.act_plus r G.zero G.zero) ∙ ap (G.act r) (G.unit G.zero) ∙ sym (G.unit (G.act r G.zero)))

  pub act-minus : (r : R) (u : G.V) → G.act r (G.minus u) ≡ G.minus (G.act r u)
  act-minus r u =
      minus_only (G.act r u) (G.act r (G.minus u))
      (sym (G.act_plus r u (G.minus u)) ∙ ap (G.act r) (G.inverse u) ∙ act-zero r)

  pub act-difference : (r : R) (u v : G.V) → G.act r (G.plus u (G.minus v)) ≡ G.plus (G.act r u) (G.minus (G.act r v))
  act-difference r u v = G.act_plus r u (G.minus v) ∙ ap (G.plus (G.act r u)) (act-minus r v)

module _ {R : Type 0} (G H : Group R) (f : G.V → H.V) (map : IsMap G H f) where
  pub map-zero : f G.zero ≡ H.zero
  map-zero =
      plus-cancel H (f G.zero) (f G.zero) H.zero
      (sym (map.to_plus G.zero G.zero) ∙ ap f (G.unit G.zero) ∙ sym (H.unit (f G.zero)))

  pub map-minus : (u : G.V) → f (G.minus u) ≡ H.minus (f u)
  map-minus u = minus_only H (f u) (f (G.minus u)) (sym (map.to_plus u (G.minus u)) ∙ ap f (G.inverse u) ∙ map-zero)

  pub map-difference : (u v : G.V) → f (G.plus u (G.minus v)) ≡ H.plus (f u) (H.minus (f v))
  map-difference u v = map.to_plus u (G.minus v) ∙ ap (H.plus (f u)) (map-minus v)
