-- Quotients Z / B of subgroups: what a map does on them, one-to-one and onto, and the inverse on classes. The classes
-- are not formed: elements of Z are compared modulo B.
use Rattle.std.proofs.Common.{sym, ◌∙◌, ap, subst}
use Rattle.sf_algebra.specs.Groups.{Group, IsSub, IsMap, Mod, IsWithin, PreimageOf, SumOf}
use Rattle.sf_algebra.proofs.Operators.Congruences.{Mod-sym, Mod-trans, Mod-equal, Mod-plus, Mod-act, Mod-map}
use Rattle.sf_algebra.proofs.Operators.Groups.{map-difference}

-- f acts from Z / B to Y / A: it takes Z into Y and B into A
pub record ActsOnQuotients {V W : Type 0} (f : V → W) (Z B : V → Type 0) (Y A : W → Type 0) : Type 0 where
  pub elements : IsWithin Z (PreimageOf f Y)
  pub bounds : IsWithin B (PreimageOf f A)

-- elements with the image zero are zero
pub record IsOneToOne {V W : Type 0} (f : V → W) (Z B : V → Type 0) (A : W → Type 0) : Type 0 where
  pub zero : (u : V) → Z u → A (f u) → B u

-- each element is equal to an image
pub record IsOnto {R : Type 0} {V : Type 0} (H : Group R) (f : V → H.V) (Z : V → Type 0)
    (Y A : H.V → Type 0) : Type 0 where
  pub source : (w : H.V) → Y w → V
  pub inside : (w : H.V) (h : Y w) → Z (source w h)
  pub image : (w : H.V) (h : Y w) → Mod H A (f (source w h)) w

pub ActsOnQuotients-id : {V : Type 0} (Z B : V → Type 0) → ActsOnQuotients (λ u. u) Z B Z B
ActsOnQuotients-id Z B = record { elements = λ u h. h; bounds = λ u h. h }

pub ActsOnQuotients-after : {U V W : Type 0} (f : U → V) (g : V → W) (Z B : U → Type 0) (Y A : V → Type 0)
    (X C : W → Type 0) → ActsOnQuotients f Z B Y A → ActsOnQuotients g Y A X C
    → ActsOnQuotients (λ u. g (f u)) Z B X C
ActsOnQuotients-after f g Z B Y A X C a b = record {
  elements = λ u h. b.elements (f u) (a.elements u h);
  bounds = λ u h. b.bounds (f u) (a.bounds u h);
}

module _ {R : Type 0} (G H : Group R) (f : G.V → H.V) (map : IsMap G H f) (Z B : G.V → Type 0)
    (Y A : H.V → Type 0) where
  -- well defined: equal elements have equal images
  pub acts-Mod : ActsOnQuotients f Z B Y A → (u v : G.V) → Mod G B u v → Mod H A (f u) (f v)
  acts-Mod acts u v h = Mod-map G H f map B A acts.bounds u v h

  -- where the relations are a sum of two parts, it is enough that both go into A
  pub acts-SumOf : (M N : G.V → Type 0) → IsSub H A → IsWithin Z (PreimageOf f Y) → IsWithin M (PreimageOf f A)
      → IsWithin N (PreimageOf f A) → ActsOnQuotients f Z (SumOf G M N) Y A
  acts-SumOf M N sub elements first second = record {
    elements = elements;
    bounds = λ u h. subst A (sym (map.to_plus h.0 h.1) ∙ ap f h.4) (sub.has_plus (f h.0) (f h.1) (first h.0 h.2) (second h.1 h.3));
  }

  -- elements of Z with equal images are equal, where f is one-to-one
  pub one_to_one-Mod : IsSub G Z → IsOneToOne f Z B A → (u v : G.V) → Z u → Z v → Mod H A (f u) (f v) → Mod G B u v
  one_to_one-Mod sub one u v h k e =
      one.zero (G.plus u (G.minus v)) (sub.has_plus u (G.minus v) h (sub.has_minus v k))
      (subst A (sym (map-difference G H f map u v)) e)

  module _ (z : IsSub G Z) (a : IsSub H A) (one : IsOneToOne f Z B A) (onto : IsOnto H f Z Y A) where
    -- the inverse of an image is the element
    pub source-image : (u : G.V) → Z u → (h : Y (f u)) → Mod G B (onto.source (f u) h) u
    source-image u h k = one_to_one-Mod z one (onto.source (f u) k) u (onto.inside (f u) k) h (onto.image (f u) k)

    -- there is no other inverse
    pub source-only : (w : H.V) (h : Y w) (u : G.V) → Z u → Mod H A (f u) w → Mod G B u (onto.source w h)
    source-only w h u k e =
        one_to_one-Mod z one u (onto.source w h) k (onto.inside w h)
        (Mod-trans H A a (f u) w (f (onto.source w h)) e (Mod-sym H A a (f (onto.source w h)) w (onto.image w h)))

    -- the inverse is well defined
    pub source-Mod : (w x : H.V) (h : Y w) (k : Y x) → Mod H A w x → Mod G B (onto.source w h) (onto.source x k)
    source-Mod w x h k e =
        source-only x k (onto.source w h) (onto.inside w h)
        (Mod-trans H A a (f (onto.source w h)) w x (onto.image w h) e)

    -- and additive
    pub source-plus : (w x : H.V) (h : Y w) (k : Y x) (l : Y (H.plus w x))
        → Mod G B (G.plus (onto.source w h) (onto.source x k)) (onto.source (H.plus w x) l)
    source-plus w x h k l =
        source-only (H.plus w x) l (G.plus (onto.source w h) (onto.source x k))
        (z.has_plus (onto.source w h) (onto.source x k) (onto.inside w h) (onto.inside x k))
        (Mod-trans H A a (f (G.plus (onto.source w h) (onto.source x k))) (H.plus (f (onto.source w h)) (f (onto.source x k))) (H.plus w x)
        (Mod-equal H A a _ _ (map.to_plus (onto.source w h) (onto.source x k)))
        (Mod-plus H A a (f (onto.source w h)) (f (onto.source x k)) w x (onto.image w h) (onto.image x k)))

    pub source-act : (r : R) (w : H.V) (h : Y w) (k : Y (H.act r w))
        → Mod G B (G.act r (onto.source w h)) (onto.source (H.act r w) k)
    source-act r w h k =
        source-only (H.act r w) k (G.act r (onto.source w h)) (z.has_act r (onto.source w h) (onto.inside w h))
        (Mod-trans H A a (f (G.act r (onto.source w h))) (H.act r (f (onto.source w h))) (H.act r w)
        (Mod-equal H A a _ _ (map.to_act r (onto.source w h)))
        (Mod-act H A a r (f (onto.source w h)) w (onto.image w h)))
