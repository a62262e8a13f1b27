-- Coordinates of elements by generators of N modulo B: c with v equal to the combination of the generators by c. They are
-- determined up to a relation of the generators.
use Rattle.std.proofs.Common.{◌≡◌, sym, subst}
use Rattle.sf_algebra.specs.Groups.{Group, IsSub, IsMap, Mod, IsWithin, Whole, PreimageOf}
use Rattle.sf_algebra.proofs.Operators.Congruences.{Mod-refl, Mod-sym, Mod-trans, Mod-plus, Mod-minus, Mod-act, Mod-inside, Mod-map, Mod-PreimageOf}
use Rattle.sf_algebra.proofs.Operators.Correspondences.{IsCorrespondence, IsMapOfClasses, converse}
use Rattle.sf_algebra.proofs.Operators.Groups.{map-minus}
use Rattle.sf_algebra.proofs.Operators.Subgroups.{PreimageOf-sub}

-- c are coordinates of v: v is equal modulo B to what the generators give with c
abbrev pub AreCoordinates : {R V : Type 0} (G : Group R) → (V → G.V) → (G.V → Type 0) → G.V → V → Type 0
AreCoordinates G combined B v c = Mod G B v (combined c)

-- each element of N has coordinates, and what the generators give is in N
pub record Generates {R V : Type 0} (G : Group R) (combined : V → G.V) (N B : G.V → Type 0) : Type 0 where
  pub inside : (c : V) → N (combined c)
  pub coordinates : (v : G.V) → N v → V
  pub are : (v : G.V) (h : N v) → AreCoordinates G combined B v (coordinates v h)

module _ {R : Type 0} (C G : Group R) (combined : C.V → G.V) (map : IsMap C G combined) (B : G.V → Type 0)
    (b : IsSub G B) where
  -- relations are a subgroup
  pub relations-sub : IsSub C (PreimageOf combined B)
  relations-sub = PreimageOf-sub C G combined map B b

  -- coordinates of equal elements differ by a relation
  pub coordinates-Mod : (v w : G.V) (c e : C.V) → AreCoordinates G combined B v c → AreCoordinates G combined B w e
      → Mod G B v w → Mod C (PreimageOf combined B) c e
  coordinates-Mod v w c e h k same =
      Mod-PreimageOf C G combined map B c e
      (Mod-trans G B b (combined c) v (combined e) (Mod-sym G B b v (combined c) h) (Mod-trans G B b v w (combined e) same k))

  -- two coordinates of one element differ by a relation
  pub coordinates-differ : (v : G.V) (c e : C.V) → AreCoordinates G combined B v c → AreCoordinates G combined B v e
      → Mod C (PreimageOf combined B) c e
  coordinates-differ v c e h k = coordinates-Mod v v c e h k (Mod-refl G B b v)

  -- what differs from coordinates by a relation are coordinates too
  pub coordinates-further : (v : G.V) (c e : C.V) → AreCoordinates G combined B v c → Mod C (PreimageOf combined B) c e
      → AreCoordinates G combined B v e
  coordinates-further v c e h k =
      Mod-trans G B b v (combined c) (combined e) h
      (Mod-map C G combined map (PreimageOf combined B) B (λ x l. l) c e k)

  -- elements with coordinates that differ by a relation are equal
  pub coordinates-same : (v w : G.V) (c e : C.V) → AreCoordinates G combined B v c → AreCoordinates G combined B w e
      → Mod C (PreimageOf combined B) c e → Mod G B v w
  coordinates-same v w c e h k same =
      Mod-trans G B b v (combined e) w (coordinates-further v c e h same) (Mod-sym G B b w (combined e) k)

  -- an element has relations as coordinates where it is in B
  pub coordinates-relation : (v : G.V) (c : C.V) → AreCoordinates G combined B v c → B v → B (combined c)
  coordinates-relation v c h k = Mod-inside G B b (combined c) v (Mod-sym G B b v (combined c) h) k

  pub relation-coordinates : (v : G.V) (c : C.V) → AreCoordinates G combined B v c → B (combined c) → B v
  relation-coordinates v c h k = Mod-inside G B b v (combined c) h k

  pub coordinates-plus : (v w : G.V) (c e : C.V) → AreCoordinates G combined B v c → AreCoordinates G combined B w e
      → AreCoordinates G combined B (G.plus v w) (C.plus c e)
  coordinates-plus v w c e h k =
      subst (Mod G B (G.plus v w)) (sym (map.to_plus c e)) (Mod-plus G B b v w (combined c) (combined e) h k)

  pub coordinates-minus : (v : G.V) (c : C.V) → AreCoordinates G combined B v c
      → AreCoordinates G combined B (G.minus v) (C.minus c)
  coordinates-minus v c h =
      subst (Mod G B (G.minus v)) (sym (map-minus C G combined map c)) (Mod-minus G B b v (combined c) h)

  pub coordinates-act : (r : R) (v : G.V) (c : C.V) → AreCoordinates G combined B v c
      → AreCoordinates G combined B (G.act r v) (C.act r c)
  coordinates-act r v c h = subst (Mod G B (G.act r v)) (sym (map.to_act r c)) (Mod-act G B b r v (combined c) h)

  -- the coordinates of what the generators give
  pub coordinates-combined : (c : C.V) → AreCoordinates G combined B (combined c) c
  coordinates-combined c = Mod-refl G B b (combined c)

  module _ (N : G.V → Type 0) (n : IsSub G N) (generates : Generates G combined N B) where
    -- to have coordinates is a correspondence of N / B with coordinates modulo relations
    pub coordinates-correspondence : IsCorrespondence G C N Whole (λ v c. N v × AreCoordinates G combined B v c)
    coordinates-correspondence = record {
      first = λ v c h. h.0;
      second = λ v c h. tt;
      sums = λ v w c e h k. (n.has_plus v w h.0 k.0, coordinates-plus v w c e h.1 k.1);
      negatives = λ v c h. (n.has_minus v h.0, coordinates-minus v c h.1);
      multiples = λ r v c h. (n.has_act r v h.0, coordinates-act r v c h.1);
    }

    -- it is a map of classes, one-to-one and onto
    pub coordinates-classes : IsMapOfClasses N B (PreimageOf combined B) (λ v c. N v × AreCoordinates G combined B v c)
    coordinates-classes = record {
      image = λ v h. generates.coordinates v h;
      related = λ v h. (h, generates.are v h);
      zero = λ v c h k. coordinates-relation v c h.1 k;
    }

    pub coordinates-inverse : IsMapOfClasses Whole (PreimageOf combined B) B
        (converse (λ v c. N v × AreCoordinates G combined B v c))
    coordinates-inverse = record {
      image = λ c h. combined c;
      related = λ c h. (generates.inside c, coordinates-combined c);
      zero = λ c v h k. relation-coordinates v c h.1 k;
    }

  -- reduced coordinates, of which two that differ by a relation are equal, are the only ones
  pub coordinates-only : (reduced : C.V → Type 0)
      → ((c e : C.V) → reduced c → reduced e → Mod C (PreimageOf combined B) c e → c ≡ e)
      → (v w : G.V) (c e : C.V) → reduced c → reduced e → AreCoordinates G combined B v c
      → AreCoordinates G combined B w e → Mod G B v w → c ≡ e
  coordinates-only reduced one v w c e r s h k same = one c e r s (coordinates-Mod v w c e h k same)

-- maps by coordinates: f from N / B, with generators, to M / A, with generators, and g, which gives coordinates of what
-- f gives
module _ {R : Type 0} (C G D H : Group R) (combined : C.V → G.V) (beyond : D.V → H.V) (map : IsMap D H beyond)
    (B : G.V → Type 0) (A : H.V → Type 0) (a : IsSub H A) (f : G.V → H.V) (f_map : IsMap G H f)
    (bounds : IsWithin B (PreimageOf f A)) where
  -- g gives coordinates of the images of the generators
  abbrev pub GivesCoordinates : (C.V → D.V) → Type 0
  GivesCoordinates g = (c : C.V) → AreCoordinates H beyond A (f (combined c)) (g c)

  -- then it gives coordinates of all images
  pub coordinates-image : (g : C.V → D.V) → GivesCoordinates g → (v : G.V) (c : C.V) → AreCoordinates G combined B v c
      → AreCoordinates H beyond A (f v) (g c)
  coordinates-image g gives v c h =
      Mod-trans H A a (f v) (f (combined c)) (beyond (g c)) (Mod-map G H f f_map B A bounds v (combined c) h) (gives c)

  -- it takes relations to relations
  pub relation-image : (g : C.V → D.V) → GivesCoordinates g
      → IsWithin (PreimageOf combined B) (PreimageOf g (PreimageOf beyond A))
  relation-image g gives c h =
      coordinates-relation D H beyond map A a (f (combined c)) (g c) (gives c) (bounds (combined c) h)

  -- and is the only one up to relations
  pub gives-only : (g k : C.V → D.V) → GivesCoordinates g → GivesCoordinates k → (c : C.V)
      → Mod D (PreimageOf beyond A) (g c) (k c)
  gives-only g k first second c =
      coordinates-differ D H beyond map A a (f (combined c)) (g c) (k c) (first c) (second c)
