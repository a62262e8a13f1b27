-- Correspondences of quotients Z / B and Y / A: relations of their elements that keep sums. A correspondence that
-- relates each element of Z, and the elements of B to those of A alone, is a well-defined map of the classes; where the
-- same holds the other way round too, it is one-to-one and onto. What a chase through a diagram gives is such a
-- relation.
use Rattle.std.proofs.Common.{sym, subst}
use Rattle.sf_algebra.specs.Groups.{Group, IsSub, IsMap, Mod}
use Rattle.sf_algebra.proofs.Operators.Congruences.{Mod-refl, Mod-plus, Mod-minus, Mod-act, Mod-inside, Mod-sym}
use Rattle.sf_algebra.proofs.Operators.Groups.{map-minus}
use Rattle.sf_algebra.proofs.Operators.Quotients.{ActsOnQuotients, IsOneToOne, IsOnto}

-- a relation of elements of Z and Y that sums, negatives and operators keep
pub record IsCorrespondence {R : Type 0} (G H : Group R) (Z : G.V → Type 0) (Y : H.V → Type 0)
    (F : G.V → H.V → Type 0) : Type 0 where
  pub first : (u : G.V) (w : H.V) → F u w → Z u
  pub second : (u : G.V) (w : H.V) → F u w → Y w
  pub sums : (u v : G.V) (w x : H.V) → F u w → F v x → F (G.plus u v) (H.plus w x)
  pub negatives : (u : G.V) (w : H.V) → F u w → F (G.minus u) (H.minus w)
  pub multiples : (r : R) (u : G.V) (w : H.V) → F u w → F (G.act r u) (H.act r w)

-- it relates each element of Z, and to zero only zero
pub record IsMapOfClasses {V W : Type 0} (Z B : V → Type 0) (A : W → Type 0) (F : V → W → Type 0) : Type 0 where
  pub image : (u : V) → Z u → W
  pub related : (u : V) (h : Z u) → F u (image u h)
  pub zero : (u : V) (w : W) → F u w → B u → A w

-- the relation the other way round
abbrev pub converse : {V W : Type 0} → (V → W → Type 0) → W → V → Type 0
converse F w u = F u w

-- one relation and then another
abbrev pub composite : {U V W : Type 0} → (U → V → Type 0) → (V → W → Type 0) → U → W → Type 0
composite {V = V} F E u w = (v : V) × F u v × E v w

module _ {R : Type 0} (G H : Group R) (Z B : G.V → Type 0) (Y A : H.V → Type 0) (F : G.V → H.V → Type 0)
    (f : IsCorrespondence G H Z Y F) where
  pub converse-correspondence : IsCorrespondence H G Y Z (converse F)
  converse-correspondence = record {
    first = λ w u h. f.second u w h;
    second = λ w u h. f.first u w h;
    sums = λ w x u v h k. f.sums u v w x h k;
    negatives = λ w u h. f.negatives u w h;
    multiples = λ r w u h. f.multiples r u w h;
  }

  -- equal elements are related to equal ones alone
  pub related-Mod : IsMapOfClasses Z B A F → (u v : G.V) (w x : H.V) → F u w → F v x → Mod G B u v → Mod H A w x
  related-Mod m u v w x h k e =
      m.zero (G.plus u (G.minus v)) (H.plus w (H.minus x)) (f.sums u (G.minus v) w (H.minus x) h (f.negatives v x k)) e

  -- the image is well defined
  pub image-Mod : (m : IsMapOfClasses Z B A F) → (u v : G.V) (h : Z u) (k : Z v) → Mod G B u v
      → Mod H A (m.image u h) (m.image v k)
  image-Mod m u v h k e = related-Mod m u v (m.image u h) (m.image v k) (m.related u h) (m.related v k) e

  -- the image is the only one
  pub image-only : IsSub G B → (m : IsMapOfClasses Z B A F) → (u : G.V) (w : H.V) (h : Z u) → F u w
      → Mod H A w (m.image u h)
  image-only b m u w h k = related-Mod m u u w (m.image u h) k (m.related u h) (Mod-refl G B b u)

  -- and additive
  pub image-plus : IsSub G B → (m : IsMapOfClasses Z B A F) → (u v : G.V) (h : Z u) (k : Z v) (l : Z (G.plus u v))
      → Mod H A (H.plus (m.image u h) (m.image v k)) (m.image (G.plus u v) l)
  image-plus b m u v h k l =
      image-only b m (G.plus u v) (H.plus (m.image u h) (m.image v k)) l
      (f.sums u v (m.image u h) (m.image v k) (m.related u h) (m.related v k))

  pub image-act : IsSub G B → (m : IsMapOfClasses Z B A F) → (r : R) (u : G.V) (h : Z u) (k : Z (G.act r u))
      → Mod H A (H.act r (m.image u h)) (m.image (G.act r u) k)
  image-act b m r u h k =
      image-only b m (G.act r u) (H.act r (m.image u h)) k (f.multiples r u (m.image u h) (m.related u h))

-- there and back again
pub image-image : {R : Type 0} (G H : Group R) (Z B : G.V → Type 0) (Y A : H.V → Type 0) (F : G.V → H.V → Type 0)
    → IsCorrespondence G H Z Y F → IsSub H A
    → (m : IsMapOfClasses Z B A F) (n : IsMapOfClasses Y A B (converse F)) → (u : G.V) (h : Z u) (k : Y (m.image u h))
    → Mod G B u (n.image (m.image u h) k)
image-image G H Z B Y A F f a m n u h k =
    image-only H G Y A Z B (converse F) (converse-correspondence G H Z B Y A F f) a n (m.image u h) u k (m.related u h)

-- one correspondence and then another
module _ {R : Type 0} (G H K : Group R) (Z : G.V → Type 0) (Y : H.V → Type 0) (X : K.V → Type 0)
    (F : G.V → H.V → Type 0) (E : H.V → K.V → Type 0) where
  pub composite-correspondence : IsCorrespondence G H Z Y F → IsCorrespondence H K Y X E
      → IsCorrespondence G K Z X (composite F E)
  composite-correspondence f e = record {
    first = λ u w h. f.first u h.0 h.1;
    second = λ u w h. e.second h.0 w h.2;
    sums = λ u v w x h k. (H.plus h.0 k.0, f.sums u v h.0 k.0 h.1 k.1, e.sums h.0 k.0 w x h.2 k.2);
    negatives = λ u w h. (H.minus h.0, f.negatives u h.0 h.1, e.negatives h.0 w h.2);
    multiples = λ r u w h. (H.act r h.0, f.multiples r u h.0 h.1, e.multiples r h.0 w h.2);
  }

  pub composite-classes : (B : G.V → Type 0) (A : H.V → Type 0) (C : K.V → Type 0) → IsCorrespondence G H Z Y F
      → IsMapOfClasses Z B A F → IsMapOfClasses Y A C E → IsMapOfClasses Z B C (composite F E)
  composite-classes B A C f m n = record {
    image = λ u h. n.image (m.image u h) (f.second u (m.image u h) (m.related u h));
    related = λ u h. (m.image u h, m.related u h, n.related (m.image u h) (f.second u (m.image u h) (m.related u h)));
    zero = λ u w h k. n.zero h.0 w h.2 (m.zero u h.0 h.1 k);
  }

-- a map of groups as a relation: the second element is equal to the image of the first
abbrev pub graph_of : {R : Type 0} {V : Type 0} (H : Group R) → (V → H.V) → (V → Type 0) → (H.V → Type 0)
    → (H.V → Type 0) → V → H.V → Type 0
graph_of H f Z Y A u w = Z u × Y w × Mod H A (f u) w

module _ {R : Type 0} (G H : Group R) (f : G.V → H.V) (map : IsMap G H f) (Z B : G.V → Type 0) (Y A : H.V → Type 0)
    (z : IsSub G Z) (y : IsSub H Y) (a : IsSub H A) where
  pub graph-correspondence : IsCorrespondence G H Z Y (graph_of H f Z Y A)
  graph-correspondence = record {
    first = λ u w h. h.0;
    second = λ u w h. h.1;
    sums = λ u v w x h k. (z.has_plus u v h.0 k.0, y.has_plus w x h.1 k.1, subst (λ t. Mod H A t (H.plus w x)) (sym (map.to_plus u v)) (Mod-plus H A a (f u) (f v) w x h.2 k.2));
    negatives = λ u w h. (z.has_minus u h.0, y.has_minus w h.1, subst (λ t. Mod H A t (H.minus w)) (sym (map-minus G H f map u)) (Mod-minus H A a (f u) w h.2));
    multiples = λ r u w h. (z.has_act r u h.0, y.has_act r w h.1, subst (λ t. Mod H A t (H.act r w)) (sym (map.to_act r u)) (Mod-act H A a r (f u) w h.2));
  }

  pub graph-classes : ActsOnQuotients f Z B Y A → IsMapOfClasses Z B A (graph_of H f Z Y A)
  graph-classes acts = record {
    image = λ u h. f u;
    related = λ u h. (h, acts.elements u h, Mod-refl H A a (f u));
    zero = λ u w h k. Mod-inside H A a w (f u) (Mod-sym H A a (f u) w h.2) (acts.bounds u k);
  }

  -- a map that is one-to-one and onto has the inverse relation as a map of classes
  pub graph-inverse : IsOneToOne f Z B A → IsOnto H f Z Y A → IsMapOfClasses Y A B (converse (graph_of H f Z Y A))
  graph-inverse one onto = record {
    image = λ w h. onto.source w h;
    related = λ w h. (onto.inside w h, h, onto.image w h);
    zero = λ w u h k. one.zero u h.0 (Mod-inside H A a (f u) w h.2 k);
  }
