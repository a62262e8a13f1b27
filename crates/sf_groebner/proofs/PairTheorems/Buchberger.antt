-- Buchberger's criterion: where the pairs of monic rows reduce to zero, each combination of the rows has a lead that
-- the lead of a row divides. (Cox, Little, O'Shea, "Using Algebraic Geometry", chapter 5, section 2.)
use Rattle.std.proofs.Common.{◌≡◌, ⊎_elim, ℕ, ◌<◌, List, [], length, sym, ◌∙◌, subst}
use Rattle.std.specs.List.{AllByRecursion}
use Rattle.sf_algebra.specs.MatrixOperations.{row_combination}
use Rattle.sf_algebra.specs.Multiples.{place_product}
use Rattle.sf_algebra.specs.Rings.{Ring, IsRing}
use Rattle.sf_algebra.specs.Terms.{Term}
use Rattle.sf_algebra.specs.Vectors.{Place, Vector}
use Rattle.sf_algebra.proofs.Terms.Normal.{EachPlace}
use Rattle.sf_groebner.specs.Criterion.{HaveLeadsAtOnePosition, IsForRows, IsMonicRow, ReducesToZero, lead_multiple, lcm_place, lead_at, pair_place}
use Rattle.sf_groebner.specs.Leads.{PlaceDivides}
use Rattle.sf_groebner.specs.ReducedBases.{HasDividedLead}
use Rattle.sf_groebner.proofs.PairTheorems.Kernels.{IsZero, IsZero-module, reduces-settled, settled-reduces}
use Rattle.sf_groebner.proofs.PairTheorems.LeadMultiples.{IsSettled, IsUnder}
use Rattle.sf_groebner.proofs.PairTheorems.MonicRows.{HasDividedLead-Begins, lead_bound, monic_leads}
use Rattle.sf_groebner.proofs.PairTheorems.Pairs.{IsSettled-chain, IsSettled-turn, cofactor, lead_multiple-pair_place, lcm_place-comm, same_lead_position, settled_pairs}
use Rattle.sf_groebner.proofs.PairTheorems.Standard.{standard}
use Rattle.sf_groebner.proofs.PairTheorems.TopCoefficients.{Begins}

-- a place of coefficients for one of the rows
abbrev pub IsInside : List Vector → Place → Type 0
IsInside rows k = k.position < length rows

module _ (ring : Ring) (positive : IsRing ring) (rows : List Vector) where
  -- a pair that reduces to zero, as one that is settled, and back
  pub IsSettled-ReducesToZero : (i j : ℕ) → HaveLeadsAtOnePosition rows i j → ReducesToZero ring rows i j
      → IsSettled ring (IsInside rows) (lead_at rows) (IsZero ring positive rows) (pair_place (lead_at rows) i j)
      (pair_place (lead_at rows) j i)
  IsSettled-ReducesToZero i j positions h =
      settled-reduces ring positive rows (IsInside rows) (lead_at rows) i j positions h.steps h.below h.value

  pub ReducesToZero-IsSettled : (i j : ℕ) → HaveLeadsAtOnePosition rows i j
      → IsSettled ring (IsInside rows) (lead_at rows) (IsZero ring positive rows) (pair_place (lead_at rows) i j)
      (pair_place (lead_at rows) j i) → ReducesToZero ring rows i j
  ReducesToZero-IsSettled i j positions h = record {
    steps = h.lower;
    below =
        subst (λ b. EachPlace (IsUnder ring.weights (IsInside rows) (lead_at rows) b) h.lower)
        (lead_multiple-pair_place (lead_at rows) j i ∙ sym (lcm_place-comm (lead_at rows) i j positions)) h.under;
    value = reduces-settled ring positive rows (IsInside rows) (lead_at rows) i j positions h;
  }

  pub ReducesToZero-sym : (i j : ℕ) → HaveLeadsAtOnePosition rows i j → ReducesToZero ring rows i j
      → ReducesToZero ring rows j i
  ReducesToZero-sym i j positions h =
      ReducesToZero-IsSettled j i (sym positions)
      (IsSettled-turn ring positive (IsZero ring positive rows) (IsZero-module ring positive rows) (IsInside rows) (lead_at rows) i j positions (IsSettled-ReducesToZero i j positions h))

  -- the chain criterion: a pair reduces to zero where the lead of a row divides its least common multiple, and the
  -- pairs with that row do
  pub ReducesToZero-chain : (i j k : ℕ) → HaveLeadsAtOnePosition rows i k
      → PlaceDivides (lead_at rows j) (lcm_place (lead_at rows) i k)
      → ReducesToZero ring rows i j → ReducesToZero ring rows j k → ReducesToZero ring rows i k
  ReducesToZero-chain i j k positions divides first second =
      ReducesToZero-IsSettled i k positions
      (IsSettled-chain ring (IsZero ring positive rows) (IsZero-module ring positive rows) (λ n. n < length rows) (lead_at rows) i j k positions divides
      (IsSettled-ReducesToZero i j (sym divides.0) first) (IsSettled-ReducesToZero j k (divides.0 ∙ positions) second))

  module _ (monic : AllByRecursion (IsMonicRow ring) rows) where
    -- the criterion for coefficients at the places in In
    pub buchberger_at : (In : Place → Type 0) → ((k : Place) → In k → k.position < length rows)
        → ((j k : Place) → In j → In k → lead_multiple (lead_at rows) j ≡ lead_multiple (lead_at rows) k
        → j.position < k.position
        → IsSettled ring (λ u. In (place_product (cofactor (lead_at rows) j k) u)) (lead_at rows)
        (IsZero ring positive rows) (pair_place (lead_at rows) j.position k.position)
        (pair_place (lead_at rows) k.position j.position))
        → (c : List (Term Place)) → EachPlace In c → HasDividedLead rows (row_combination ring rows c)
    buchberger_at In inside pairs c h =
        ⊎_elim
        (λ (none : row_combination ring rows c ≡ []). subst (HasDividedLead rows) (sym none) tt)
        (λ (found : (k : Place) × In k × Begins (lead_multiple (lead_at rows) k) (row_combination ring rows c)).
        HasDividedLead-Begins ring rows monic found.0 (inside found.0 found.1) (row_combination ring rows c) found.2)
        (standard ring (lead_bound rows) positive In rows (lead_at rows) (monic_leads ring rows monic In inside) (IsZero ring positive rows) (IsZero-module ring positive rows)
        (settled_pairs ring (IsZero ring positive rows) (IsZero-module ring positive rows) In (lead_at rows) positive pairs) (λ s none. none) c h)

    -- the criterion
    pub buchberger : ((i j : ℕ) → i < j → j < length rows → HaveLeadsAtOnePosition rows i j
        → ReducesToZero ring rows i j)
        → (c : List (Term Place)) → AllByRecursion (IsForRows rows) c
        → HasDividedLead rows (row_combination ring rows c)
    buchberger pairs =
        buchberger_at (IsInside rows) (λ k h. h)
        (λ j k j_in k_in e earlier.
        let positions = same_lead_position (lead_at rows) j k e in
        IsSettled-ReducesToZero j.position k.position positions (pairs j.position k.position earlier k_in positions))
