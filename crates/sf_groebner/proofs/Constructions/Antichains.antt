-- Lists of monic vectors none of whose leads divides another, which divide what a longer list divides.
use Rattle.std.proofs.Common.{◌≡◌, inl, inr, Bool, true, false, not, List, [], ◌∷◌, filter, refl}
use Rattle.std.proofs.lemmas.Bool.{cases_Bool, or_cases, or_left, or_right}
use Rattle.std.specs.List.{AllByRecursion}
use Rattle.sf_algebra.specs.Vectors.{Place, Vector}
use Rattle.sf_algebra.proofs.Basics.Filters.{AllByRecursion-filter, AllByRecursion-filter_keeps, cond_cases}
use Rattle.sf_groebner.specs.Criterion.{lead_place}
use Rattle.sf_groebner.specs.ReducedBases.{is_divided, lead_divides}
use Rattle.sf_groebner.proofs.Basics.Items.{AllByRecursion-both, IsItem-filter, list_any-from_item, list_any-item}
use Rattle.sf_groebner.proofs.Constructions.LeadDivisors.{is_divided-none, lead_divides-trans}
use Rattle.sf_groebner.proofs.Constructions.MonicVectors.{lead_divides-place}

-- no lead of the rows behind it divides the lead of a row
abbrev pub IsGrown : List Vector → Type 0
IsGrown [] = Unit {0}
IsGrown (v ∷ vs) = (is_divided vs (lead_place v.terms) ≡ false) × IsGrown vs

-- the lead of neither divides that of the other
abbrev pub AreIncomparable : Vector → Vector → Type 0
AreIncomparable v w =
    (lead_divides v.terms (lead_place w.terms) ≡ false) × (lead_divides w.terms (lead_place v.terms) ≡ false)

-- no lead divides another
abbrev pub IsAntichain : List Vector → Type 0
IsAntichain [] = Unit {0}
IsAntichain (v ∷ vs) = AllByRecursion (AreIncomparable v) vs × IsAntichain vs

-- whether the lead of w is kept beside that of v
abbrev is_kept : Vector → Vector → Bool
is_kept v w = not (lead_divides v.terms (lead_place w.terms))

-- the vectors whose leads no lead before them divides
pub antichain : List Vector → List Vector
antichain [] = []
antichain (v ∷ vs) = v ∷ filter (is_kept v) (antichain vs)

-- what holds of each still does
pub AllByRecursion-antichain : (P : Vector → Type 0) (vs : List Vector) → AllByRecursion P vs
    → AllByRecursion P (antichain vs)
unfolding antichain
AllByRecursion-antichain P [] h = tt
AllByRecursion-antichain P (v ∷ vs) h =
    (h.0, AllByRecursion-filter_keeps P (is_kept v) (antichain vs) (AllByRecursion-antichain P vs h.1))

IsAntichain-filter : (test : Vector → Bool) (vs : List Vector) → IsAntichain vs → IsAntichain (filter test vs)
IsAntichain-filter test [] h = tt
IsAntichain-filter test (v ∷ vs) h =
    let rest = IsAntichain-filter test vs h.1 in
    cond_cases (test v) (v ∷ filter test vs) (filter test vs) IsAntichain
    (λ e. (AllByRecursion-filter_keeps _ test vs h.0, rest)) (λ e. rest)

not_true : (b : Bool) → not b ≡ true → b ≡ false
not_true true e = cc
not_true false e = refl

not_false : (b : Bool) → b ≡ false → not b ≡ true
not_false true e = cc
not_false false e = refl

pub IsAntichain-antichain : (vs : List Vector) → IsGrown vs → IsAntichain (antichain vs)
unfolding antichain
IsAntichain-antichain [] h = tt
IsAntichain-antichain (v ∷ vs) h = (
  AllByRecursion-both (λ w. lead_divides v.terms (lead_place w.terms) ≡ false)
      (λ w. lead_divides w.terms (lead_place v.terms) ≡ false) (AreIncomparable v) (λ w a b. (a, b))
      (filter (is_kept v) (antichain vs))
      (AllByRecursion-filter _ (is_kept v) (antichain vs) (λ w e. not_true (lead_divides v.terms (lead_place w.terms)) e))
      (AllByRecursion-filter_keeps _ (is_kept v) (antichain vs) (AllByRecursion-antichain _ vs (is_divided-none vs (lead_place v.terms) h.0))),
  IsAntichain-filter (is_kept v) (antichain vs) (IsAntichain-antichain vs h.1),
)

-- the leads that are left divide what the leads divide
pub is_divided-antichain : (vs : List Vector) (k : Place) → is_divided vs k ≡ true → is_divided (antichain vs) k ≡ true
unfolding antichain
is_divided-antichain [] k h = h
is_divided-antichain (v ∷ vs) k h =
    elim (or_cases (lead_divides v.terms k) (is_divided vs k) h) [
      | inl first ↦ or_left (lead_divides v.terms k) _ first
      | inr there ↦
          let found =
          list_any-item (λ (w : Vector). lead_divides w.terms k) (antichain vs) (is_divided-antichain vs k there) in
          let w : Vector = found.0 in
          elim (cases_Bool (lead_divides v.terms (lead_place w.terms))) [
            | inl through ↦ or_left (lead_divides v.terms k) _
                (lead_divides-trans v.terms (lead_place w.terms) k through (lead_divides-place w.terms k found.2))
            | inr kept ↦
                or_right (lead_divides v.terms k) _
                (list_any-from_item (λ (x : Vector). lead_divides x.terms k) (filter (is_kept v) (antichain vs)) w
                (IsItem-filter (is_kept v) (antichain vs) w found.1 (not_false (lead_divides v.terms (lead_place w.terms)) kept)) found.2)
          ]
    ]
