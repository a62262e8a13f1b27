-- The leads of monic vectors: what they divide.
use Rattle.std.proofs.Common.{◌≡◌, Bool, true, false, ◌||◌, List, [], ◌∷◌, map, refl}
use Rattle.std.specs.List.{AllByRecursion, list_any}
use Rattle.sf_algebra.specs.Terms.{Term}
use Rattle.sf_algebra.specs.Vectors.{Place, Vector}
use Rattle.sf_groebner.specs.Criterion.{lead_place}
use Rattle.sf_groebner.specs.Leads.{PlaceDivides, place_divides}
use Rattle.sf_groebner.specs.ReducedBases.{IsMonic, is_divided, lead_divides}
use Rattle.sf_groebner.proofs.Basics.PlaceDivisors.{Decides-place_divides, PlaceDivides-refl, PlaceDivides-trans}

-- where the leads of rows stand
abbrev pub lead_places : List Vector → List Place
lead_places rows = map (λ (v : Vector). lead_place v.terms) rows

pub lead_divides-lead_place : (ts : List (Term Place)) (k : Place) → IsMonic ts
    → lead_divides ts k ≡ place_divides (lead_place ts) k
lead_divides-lead_place [] k h = absurd h
lead_divides-lead_place (t ∷ ts) k h = refl

pub is_divided-lead_places : (rows : List Vector) (k : Place) → AllByRecursion (λ (v : Vector). IsMonic v.terms) rows
    → is_divided rows k ≡ list_any (λ j. place_divides j k) (lead_places rows)
is_divided-lead_places [] k h = refl
is_divided-lead_places (v ∷ vs) k h = λ i. lead_divides-lead_place v.terms k h.0 i || is_divided-lead_places vs k h.1 i

-- a lead divides itself
pub lead_divides-own : (ts : List (Term Place)) → IsMonic ts → lead_divides ts (lead_place ts) ≡ true
lead_divides-own [] h = absurd h
lead_divides-own (t ∷ ts) h = (Decides-place_divides t.at t.at).1 (PlaceDivides-refl t.at)

-- a lead divides what is divided by a place that it divides
pub lead_divides-trans : (ts : List (Term Place)) (j k : Place) → lead_divides ts j ≡ true → PlaceDivides j k
    → lead_divides ts k ≡ true
lead_divides-trans [] j k h divides = cc
lead_divides-trans (t ∷ ts) j k h divides =
    (Decides-place_divides t.at k).1 (PlaceDivides-trans t.at j k ((Decides-place_divides t.at j).0 h) divides)

or_false_parts : (a b : Bool) → (a || b) ≡ false → (a ≡ false) × (b ≡ false)
or_false_parts true b h = cc
or_false_parts false b h = (refl, h)

-- where no lead divides a place, each doesn't
pub is_divided-none : (vs : List Vector) (k : Place) → is_divided vs k ≡ false
    → AllByRecursion (λ (w : Vector). lead_divides w.terms k ≡ false) vs
is_divided-none [] k h = tt
is_divided-none (v ∷ vs) k h =
    let parts = or_false_parts (lead_divides v.terms k) (is_divided vs k) h in (parts.0, is_divided-none vs k parts.1)
