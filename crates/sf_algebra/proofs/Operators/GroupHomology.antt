-- Homology of groups modulo relations: cycles and boundaries between two maps that pass each other, and what maps of
-- complexes do on them.
use Rattle.std.proofs.Common.{refl}
use Rattle.sf_algebra.specs.Groups.{Group, IsSub, IsMap, Mod, IsWithin, Whole, ImageOf, PreimageOf, SumOf}
use Rattle.sf_algebra.proofs.Operators.Congruences.{Mod-sym, Mod-trans, Mod-within, Mod-inside, Mod-add}
use Rattle.sf_algebra.proofs.Operators.Quotients.{ActsOnQuotients}
use Rattle.sf_algebra.proofs.Operators.Subgroups.{Whole-sub, ImageOf-sub, PreimageOf-sub, SumOf-sub, SumOf-within, ImageOf-within, within-SumOf_first, within-SumOf_second}

-- a map into a group with the relations `here`, and one out of it into a group with the relations `beyond`, which pass
-- each other
pub record PassingMaps (R : Type 0) : Type 1 where
  pub source : Group R
  pub middle : Group R
  pub target : Group R
  pub arriving : source.V → middle.V
  pub leaving : middle.V → target.V
  pub here : middle.V → Type 0
  pub beyond : target.V → Type 0
  pub arriving_map : IsMap source middle arriving
  pub leaving_map : IsMap middle target leaving
  pub here_sub : IsSub middle here
  pub beyond_sub : IsSub target beyond
  pub relations : IsWithin here (PreimageOf leaving beyond)
  pub passing : (u : source.V) → beyond (leaving (arriving u))

-- the cycles: what leaves into the relations
abbrev pub CyclesOf : {R : Type 0} (C : PassingMaps R) → C.middle.V → Type 0
CyclesOf C = PreimageOf C.leaving C.beyond

-- the boundaries: what arrives, and the relations
abbrev pub BoundariesOf : {R : Type 0} (C : PassingMaps R) → C.middle.V → Type 0
BoundariesOf C = SumOf C.middle (ImageOf C.arriving Whole) C.here

module _ {R : Type 0} (C : PassingMaps R) where
  pub CyclesOf-sub : IsSub C.middle (CyclesOf C)
  CyclesOf-sub = PreimageOf-sub C.middle C.target C.leaving C.leaving_map C.beyond C.beyond_sub

  arriving-sub : IsSub C.middle (ImageOf C.arriving Whole)
  arriving-sub = ImageOf-sub C.source C.middle C.arriving C.arriving_map Whole (Whole-sub C.source)

  pub BoundariesOf-sub : IsSub C.middle (BoundariesOf C)
  BoundariesOf-sub = SumOf-sub C.middle (ImageOf C.arriving Whole) C.here arriving-sub C.here_sub

  pub arriving-BoundariesOf : (u : C.source.V) → BoundariesOf C (C.arriving u)
  arriving-BoundariesOf u =
      within-SumOf_first C.middle (ImageOf C.arriving Whole) C.here arriving-sub C.here_sub (C.arriving u) (u, tt, refl)

  pub here-BoundariesOf : IsWithin C.here (BoundariesOf C)
  here-BoundariesOf = within-SumOf_second C.middle (ImageOf C.arriving Whole) C.here arriving-sub C.here_sub

  -- what is equal modulo the relations is equal modulo the boundaries
  pub Mod-BoundariesOf : (u v : C.middle.V) → Mod C.middle C.here u v → Mod C.middle (BoundariesOf C) u v
  Mod-BoundariesOf u v h = Mod-within C.middle C.here (BoundariesOf C) here-BoundariesOf u v h

  -- a subgroup that has what arrives and the relations has the boundaries
  pub BoundariesOf-within : (N : C.middle.V → Type 0) → IsSub C.middle N → ((u : C.source.V) → N (C.arriving u))
      → IsWithin C.here N → IsWithin (BoundariesOf C) N
  BoundariesOf-within N sub arrives relations =
      SumOf-within C.middle (ImageOf C.arriving Whole) C.here N sub
      (ImageOf-within C.arriving Whole N (λ u h. arrives u)) relations

  -- boundaries are cycles
  pub boundaries-cycles : IsWithin (BoundariesOf C) (CyclesOf C)
  boundaries-cycles = BoundariesOf-within (CyclesOf C) CyclesOf-sub C.passing C.relations

-- maps from three groups in a row to three others, which take relations to relations and meet the maps of the rows
-- modulo relations
pub record AreMapsOfPassingMaps {R : Type 0} (C D : PassingMaps R) (first : C.source.V → D.source.V)
    (second : C.middle.V → D.middle.V) (third : C.target.V → D.target.V) : Type 0 where
  pub second_map : IsMap C.middle D.middle second
  pub third_map : IsMap C.target D.target third
  pub second_relations : IsWithin C.here (PreimageOf second D.here)
  pub third_relations : IsWithin C.beyond (PreimageOf third D.beyond)
  pub before : (u : C.source.V) → Mod D.middle D.here (second (C.arriving u)) (D.arriving (first u))
  pub after : (v : C.middle.V) → Mod D.target D.beyond (third (C.leaving v)) (D.leaving (second v))

module _ {R : Type 0} (C D : PassingMaps R) where
  module _ (first : C.source.V → D.source.V) (second : C.middle.V → D.middle.V) (third : C.target.V → D.target.V)
      (f : AreMapsOfPassingMaps C D first second third) where
    pub cycles-image : IsWithin (CyclesOf C) (PreimageOf second (CyclesOf D))
    cycles-image v h =
        Mod-inside D.target D.beyond D.beyond_sub (D.leaving (second v)) (third (C.leaving v))
        (Mod-sym D.target D.beyond D.beyond_sub (third (C.leaving v)) (D.leaving (second v)) (f.after v))
        (f.third_relations (C.leaving v) h)

    pub boundaries-image : IsWithin (BoundariesOf C) (PreimageOf second (BoundariesOf D))
    boundaries-image =
        BoundariesOf-within C (PreimageOf second (BoundariesOf D))
        (PreimageOf-sub C.middle D.middle second f.second_map (BoundariesOf D) (BoundariesOf-sub D))
        (λ u.
        Mod-inside D.middle (BoundariesOf D) (BoundariesOf-sub D) (second (C.arriving u)) (D.arriving (first u))
        (Mod-BoundariesOf D (second (C.arriving u)) (D.arriving (first u)) (f.before u))
        (arriving-BoundariesOf D (first u)))
        (λ v h. here-BoundariesOf D (second v) (f.second_relations v h))

    -- the map acts on homology
    pub homology-acts : ActsOnQuotients second (CyclesOf C) (BoundariesOf C) (CyclesOf D) (BoundariesOf D)
    homology-acts = record { elements = cycles-image; bounds = boundaries-image }

  -- maps that differ by what arrives, and by what depends on what leaves, do the same on homology
  pub homology-homotopic : (f g : C.middle.V → D.middle.V) (s : C.middle.V → D.source.V) (t : C.target.V → D.middle.V)
      → IsWithin C.beyond (PreimageOf t D.here)
      → ((v : C.middle.V) → Mod D.middle D.here (f v)
      (D.middle.plus (g v) (D.middle.plus (D.arriving (s v)) (t (C.leaving v)))))
      → (v : C.middle.V) → CyclesOf C v → Mod D.middle (BoundariesOf D) (f v) (g v)
  homology-homotopic f g s t relations differ v h =
      let sub = BoundariesOf-sub D in
      let more = D.middle.plus (D.arriving (s v)) (t (C.leaving v)) in
      Mod-trans D.middle (BoundariesOf D) sub (f v) (D.middle.plus (g v) more) (g v)
      (Mod-BoundariesOf D (f v) (D.middle.plus (g v) more) (differ v))
      (Mod-add D.middle (BoundariesOf D) sub (g v) more
      (sub.has_plus (D.arriving (s v)) (t (C.leaving v)) (arriving-BoundariesOf D (s v)) (here-BoundariesOf D (t (C.leaving v)) (relations (C.leaving v) h))))
