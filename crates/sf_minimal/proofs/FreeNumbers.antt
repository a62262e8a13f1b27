-- The pivots, as they are sought among leads.
use Rattle.std.proofs.Common.{◌≡◌, ◌||◌, HoldsAt, Bool, false, true, cond, ℕ, zero, suc, ◌+◌, ◌<◌, List, [], ◌∷◌, ◌++◌, append-nil, length, refl, sym, ◌∙◌, ap, arith}
use Rattle.std.specs.List.{AllByRecursion, list_any}
use Rattle.sf_algebra.specs.Vectors.{Place, Vector}
use Rattle.sf_groebner.specs.Leads.{PlaceDivides, place_divides}
use Rattle.sf_groebner.specs.ReducedBases.{IsMonic}
use Rattle.sf_groebner.proofs.Basics.PlaceDivisors.{Decides-place_divides}
use Rattle.sf_groebner.proofs.Constructions.LeadDivisors.{is_divided-lead_places, lead_places}
use Rattle.sf_minimal.specs.Numbers.{free_numbers, has_pivot, pivot_place}
use Rattle.sf_minimal.specs.Steps.{is_taken}

or_second : (a b : Bool) → b ≡ true → (a || b) ≡ true
or_second true b e = refl
or_second false b e = e

-- a lead that divides the place is one of its divisors
pub is_taken-divisor : (leads : List Place) (n i : ℕ) (k : Place) → k ≡ pivot_place n i → (r : ℕ) → r < length leads
    → HoldsAt (λ (j : Place). PlaceDivides j k) leads r → is_taken leads n i ≡ true
is_taken-divisor leads n i k place r within divides =
    ap (λ l. list_any (λ j. place_divides j l) leads) (sym place) ∙ found leads r within divides
  where
    found : (ks : List Place) (q : ℕ) → q < length ks → HoldsAt (λ (j : Place). PlaceDivides j k) ks q
        → list_any (λ j. place_divides j k) ks ≡ true
    found [] q inside h = absurd (omega arith)
    found (j ∷ js) zero inside h =
        ap (λ b. b || list_any (λ l. place_divides l k) js) ((Decides-place_divides j k).1 (h j))
    found (j ∷ js) (suc q) inside h = or_second (place_divides j k) _ (found js q (omega arith) h)

module _ (pivots : List Vector) (monic : AllByRecursion (λ (v : Vector). IsMonic v.terms) pivots) (n i : ℕ)
    (leads : List Place) (same : leads ≡ lead_places pivots) where
  has_pivot-is_taken : has_pivot pivots n i ≡ is_taken leads n i
  has_pivot-is_taken =
      is_divided-lead_places pivots (pivot_place n i) monic ∙ ap (λ ks. is_taken ks n i) (sym same)

  -- the next number is free
  pub free-next : is_taken leads n i ≡ false → free_numbers pivots n (i + 1) ≡ free_numbers pivots n i ++ i ∷ []
  free-next none =
      ap (free_numbers pivots n) (let e : i + 1 ≡ suc i = omega arith in e)
      ∙ ap (λ b. free_numbers pivots n i ++ cond b [] (i ∷ [])) (has_pivot-is_taken ∙ none)

  -- there is a pivot for it
  pub taken-next : is_taken leads n i ≡ true → free_numbers pivots n (i + 1) ≡ free_numbers pivots n i
  taken-next taken =
      ap (free_numbers pivots n) (let e : i + 1 ≡ suc i = omega arith in e)
      ∙ ap (λ b. free_numbers pivots n i ++ cond b [] (i ∷ [])) (has_pivot-is_taken ∙ taken)
      ∙ append-nil (free_numbers pivots n i)
