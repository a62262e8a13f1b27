-- The S-vector of a pair of monic rows: its places are less than the least common multiple of the leads.
use Rattle.std.proofs.Common.{◌≡◌, ◌≢◌, ℕ, ◌<◌, List, [], ◌∷◌, length, if◌then◌else◌, sym, ◌∙◌, ap, subst, arith}
use Rattle.std.proofs.lemmas.Cmp.{tied_itself}
use Rattle.std.specs.declared.cmp.Ordering.TheVariants.{Equal, Greater}
use Rattle.std.specs.Ordering.{is_eq}
use Rattle.std.specs.List.{AllByRecursion}
use Rattle.sf_algebra.specs.Residues.{sum_mod, negative_mod}
use Rattle.sf_algebra.specs.Rings.{Ring, IsRing}
use Rattle.sf_algebra.specs.Sums.{total, coefficient_at}
use Rattle.sf_algebra.specs.Terms.{Term}
use Rattle.sf_algebra.specs.Vectors.{Place, Vector, place_cmp, IsCanonicalRow}
use Rattle.sf_algebra.proofs.Arithmetic.Residues.{sum_mod-second, sum_mod-zero}
use Rattle.sf_algebra.proofs.Basics.Lists.{AllByRecursion-weaken}
use Rattle.sf_algebra.proofs.Monomials.Orders.{ordering_cases, place_cmp-Equal, place_cmp_linear, place_cmp_total}
use Rattle.sf_algebra.proofs.Terms.Coefficients.{coefficient_at-head}
use Rattle.sf_algebra.proofs.Terms.Normal.{EachPlace, IsAboveEach}
use Rattle.sf_algebra.proofs.Terms.SameTotals.{sum_mod-one_negative}
use Rattle.sf_algebra.proofs.Terms.Totals.{total-cons, total-nil}
use Rattle.sf_algebra.proofs.Vectors.Rows.{IsCanonical-row_combination}
use Rattle.sf_groebner.specs.Criterion.{HaveLeadsAtOnePosition, IsMonicRow, lead_multiple, lcm_place, lead_at, pair_place, s_coefficients, s_vector}
use Rattle.sf_groebner.proofs.Basics.PlaceOrder.{Equal-not_Greater}
use Rattle.sf_groebner.proofs.PairTheorems.Buchberger.{IsInside}
use Rattle.sf_groebner.proofs.PairTheorems.LeadMultiples.{IsAtMost, top_part}
use Rattle.sf_groebner.proofs.PairTheorems.MonicRows.{lead_bound, monic_leads}
use Rattle.sf_groebner.proofs.PairTheorems.Pairs.{lead_multiple-pair_place, lcm_place-comm}
use Rattle.sf_groebner.proofs.PairTheorems.TopCoefficients.{coefficient_at-top, row_combination-at_most}

-- a canonical list no place of which is greater than b, and which has no coefficient at b, is below b
pub below_at : (ring : Ring) (b : Place) (v : List (Term Place)) → IsCanonicalRow ring v
    → EachPlace (λ k. place_cmp ring.weights k b ≢ Greater) v
    → coefficient_at (place_cmp ring.weights) ring.modulus b v ≡ 0 → IsAboveEach (place_cmp ring.weights) b v
below_at ring b [] canonical most none = tt
below_at ring b (t ∷ ts) canonical most none =
    ordering_cases (place_cmp ring.weights t.at b)
    (λ less. (less, AllByRecursion-weaken _ _ (λ u h. (place_cmp_total ring.weights).trans u.at t.at b h less) ts canonical.descending.0))
    (λ equal.
    let same : coefficient_at (place_cmp ring.weights) ring.modulus t.at (t ∷ ts) ≡ 0 =
    subst (λ k. coefficient_at (place_cmp ring.weights) ring.modulus k (t ∷ ts) ≡ 0)
    (sym (place_cmp-Equal ring.weights t.at b equal)) none in
    absurd (no_zero t.coefficient canonical.residues.0.0 (sym (coefficient_at-head (place_cmp ring.weights) (place_cmp_linear ring.weights) ring.modulus t ts canonical) ∙ same)))
    (λ greater. absurd (most.0 greater))
  where
    no_zero : (n : ℕ) → 0 < n → n ≡ 0 → ⊥
    no_zero n positive e = omega arith

module _ (ring : Ring) (positive : IsRing ring) (rows : List Vector)
    (monic : AllByRecursion (IsMonicRow ring) rows) where
  -- both images of a pair are the least common multiple
  multiple_cmp-first : (i j : ℕ)
      → place_cmp ring.weights (lead_multiple (lead_at rows) (pair_place (lead_at rows) i j))
      (lcm_place (lead_at rows) i j) ≡ Equal
  multiple_cmp-first i j =
      ap (λ k. place_cmp ring.weights k (lcm_place (lead_at rows) i j)) (lead_multiple-pair_place (lead_at rows) i j)
      ∙ tied_itself (place_cmp_total ring.weights) (lcm_place (lead_at rows) i j)

  multiple_cmp-second : (i j : ℕ) → HaveLeadsAtOnePosition rows i j
      → place_cmp ring.weights (lead_multiple (lead_at rows) (pair_place (lead_at rows) j i))
      (lcm_place (lead_at rows) i j) ≡ Equal
  multiple_cmp-second i j positions =
      ap (λ k. place_cmp ring.weights k (lcm_place (lead_at rows) i j))
      (lead_multiple-pair_place (lead_at rows) j i ∙ sym (lcm_place-comm (lead_at rows) i j positions))
      ∙ tied_itself (place_cmp_total ring.weights) (lcm_place (lead_at rows) i j)

  -- there the coefficients 1 and -1 cancel
  total-pair_terms : (i j : ℕ) → HaveLeadsAtOnePosition rows i j
      → total ring.modulus (top_part ring.weights (lead_at rows) (lcm_place (lead_at rows) i j))
      (s_coefficients ring.modulus (lead_at rows) i j) ≡ 0
  total-pair_terms i j positions =
      let top = top_part ring.weights (lead_at rows) (lcm_place (lead_at rows) i j) in
      let second : Term Place =
      record { at = pair_place (lead_at rows) j i; coefficient = negative_mod ring.modulus 1 } in
      total-cons ring.modulus top (record { at = pair_place (lead_at rows) i j; coefficient = 1 }) (second ∷ [])
      ∙ (λ k.
      sum_mod ring.modulus (if is_eq (multiple_cmp-first i j k) then 1 else 0)
      ((total-cons ring.modulus top second []
      ∙ (λ l. sum_mod ring.modulus (if is_eq (multiple_cmp-second i j positions l) then negative_mod ring.modulus 1 else 0) (total-nil ring.modulus top l))
      ∙ sum_mod-zero ring.modulus (negative_mod ring.modulus 1)) k))
      ∙ sum_mod-second ring.modulus 1 (negative_mod ring.modulus 1)
      ∙ sum_mod-one_negative ring.modulus positive.modulus

  pub s_vector-below : (i j : ℕ) → i < length rows → j < length rows → HaveLeadsAtOnePosition rows i j
      → IsAboveEach (place_cmp ring.weights) (lcm_place (lead_at rows) i j) (s_vector ring rows i j)
  s_vector-below i j i_in j_in positions =
      let b = lcm_place (lead_at rows) i j in
      let terms = s_coefficients ring.modulus (lead_at rows) i j in
      let leads = monic_leads ring rows monic (IsInside rows) (λ k h. h) in
      let most : EachPlace (IsAtMost ring.weights (IsInside rows) (lead_at rows) (lcm_place (lead_at rows) i j)) (s_coefficients ring.modulus (lead_at rows) i j) = ((i_in, Equal-not_Greater _ (multiple_cmp-first i j)), ((j_in, Equal-not_Greater _ (multiple_cmp-second i j positions)), tt)) in
      below_at ring b (s_vector ring rows i j) (IsCanonical-row_combination ring positive.modulus rows terms)
      (row_combination-at_most ring (lead_bound rows) (IsInside rows) rows (lead_at rows) leads b terms most)
      (coefficient_at-top ring (lead_bound rows) (IsInside rows) rows (lead_at rows) leads b terms most ∙ total-pair_terms i j positions)
