-- Pairs that are passed over are settled by others: first those with an earlier second row, then those with a least common
-- multiple of smaller degree, and then those with an earlier first row.
use Rattle.std.proofs.Common.{◌≡◌, ◌⊎◌, ⊎_elim, max, ℕ, zero, suc, ◌<◌, ◌≤◌, List, length, sym, ◌∙◌, arith}
use Rattle.std.proofs.lemmas.Bool.{cases_lt}
use Rattle.sf_algebra.specs.Monomials.{exponent_sum}
use Rattle.sf_algebra.specs.Rings.{Ring, IsRing}
use Rattle.sf_algebra.specs.Terms.{Term}
use Rattle.sf_algebra.specs.Vectors.{Place, Vector}
use Rattle.sf_groebner.specs.Criterion.{IsPair, lcm_place, lead_at, pair_place}
use Rattle.sf_groebner.specs.Leads.{PlaceDivides}
use Rattle.sf_groebner.proofs.PairTheorems.Buchberger.{IsInside}
use Rattle.sf_groebner.proofs.PairTheorems.LeadMultiples.{IsModule, IsSettled}
use Rattle.sf_groebner.proofs.PairTheorems.Pairs.{IsSettled-chain, IsSettled-turn}
use Rattle.sf_minimal.specs.Steps.{IsPassedOver}

-- the degree of the least common multiple of the leads of rows i and j
abbrev pub lcm_sum : List Vector → ℕ → ℕ → ℕ
lcm_sum rows i j = exponent_sum (lcm_place (lead_at rows) i j).monomial

lcm_sum-divides : (rows : List Vector) (r i j : ℕ) → PlaceDivides (lead_at rows r) (lcm_place (lead_at rows) i j)
    → lcm_sum rows r j ≤ lcm_sum rows i j
lcm_sum-divides rows r i j divides =
    let a = (lead_at rows r).monomial in
    let b = (lead_at rows i).monomial in
    let c = (lead_at rows j).monomial in
    omega (
      arith,
      least a.e1 b.e1 c.e1 divides.1.0,
      least a.e2 b.e2 c.e2 divides.1.1,
      least a.e3 b.e3 c.e3 divides.1.2,
      least a.e4 b.e4 c.e4 divides.1.3,
      least a.e5 b.e5 c.e5 divides.1.4,
      least a.e6 b.e6 c.e6 divides.1.5,
    )
  where
    least : (k m n : ℕ) → k ≤ max m n → max k n ≤ max m n
    least k m n h = omega arith

module _ (ring : Ring) (positive : IsRing ring) (S : List (Term Place) → Type 0) (is_module : IsModule ring.modulus S)
    (rows : List Vector) where
  -- the pair of rows i and j is settled
  abbrev pub IsSettledPair : ℕ → ℕ → Type 0
  IsSettledPair i j =
      IsSettled ring (IsInside rows) (lead_at rows) S (pair_place (lead_at rows) i j) (pair_place (lead_at rows) j i)

  -- a pair is settled by its pairs with the row for which it is passed over
  passed_over-chain : (i j : ℕ) → IsPair rows i j → (h : IsPassedOver rows i j)
      → ((k l : ℕ) → l < j → IsPair rows k l → IsSettledPair k l) → IsSettledPair h.0 j → IsSettledPair i j
  passed_over-chain i j pair h earlier second =
      IsSettled-chain ring S is_module (λ n. n < length rows) (lead_at rows) i h.0 j pair.positions h.2.0
      (⊎_elim
      (λ (before : h.0 < i).
      IsSettled-turn ring positive S is_module (IsInside rows) (lead_at rows) h.0 i h.2.0.0
      (earlier h.0 i pair.earlier (record { earlier = before; later = omega (arith, pair.earlier, pair.later); positions = h.2.0.0 })))
      (λ (not_before : i ≤ h.0).
      earlier i h.0 h.1
      (record {
        earlier = ⊎_elim (λ (after : i < h.0). after)
            (λ (not_after : h.0 ≤ i).
            let same : h.0 ≡ i = omega (arith, not_before, not_after) in
            ⊎_elim (λ (before : h.0 < i). absurd (omega (arith, before, not_before)))
            (λ (less : lcm_sum rows h.0 j < lcm_sum rows i j).
            let equal : lcm_sum rows h.0 j ≡ lcm_sum rows i j = λ k. lcm_sum rows (same k) j in
            absurd (omega (arith, less, equal)))
            h.2.1)
            (cases_lt i h.0);
        later = omega (arith, h.1, pair.later);
        positions = sym h.2.0.0;
      }))
      (cases_lt h.0 i))
      second

  module _ (pairs : (i j : ℕ) → IsPair rows i j → IsSettledPair i j ⊎ IsPassedOver rows i j) where
    -- the pairs with row j, by those with an earlier second row
    module _ (j : ℕ) (earlier : (k l : ℕ) → l < j → IsPair rows k l → IsSettledPair k l) where
      -- those of some degree, by those of smaller degree
      by_row : (b : ℕ) → ((i : ℕ) → lcm_sum rows i j < b → IsPair rows i j → IsSettledPair i j)
          → (c i : ℕ) → i < c → lcm_sum rows i j < suc b → IsPair rows i j → IsSettledPair i j
      by_row b smaller zero i below bounded pair = absurd (omega (arith, below))
      by_row b smaller (suc c) i below bounded pair =
          ⊎_elim (λ (settled : IsSettledPair i j). settled)
          (λ (h : IsPassedOver rows i j).
          let other : IsPair rows h.0 j = record { earlier = h.1; later = pair.later; positions = h.2.0.0 ∙ pair.positions } in
          let most = lcm_sum-divides rows h.0 i j h.2.0 in
          passed_over-chain i j pair h earlier
          (⊎_elim
          (λ (before : h.0 < i). by_row b smaller c h.0 (omega (arith, before, below)) (omega (arith, most, bounded)) other)
          (λ (less : lcm_sum rows h.0 j < lcm_sum rows i j). smaller h.0 (omega (arith, less, bounded)) other)
          h.2.1))
          (pairs i j pair)

      by_degree : (b i : ℕ) → lcm_sum rows i j < b → IsPair rows i j → IsSettledPair i j
      by_degree zero i bounded pair = absurd (omega (arith, bounded))
      by_degree (suc b) i bounded pair = by_row b (by_degree b) (suc i) i (omega arith) bounded pair

    settled_before : (m i j : ℕ) → j < m → IsPair rows i j → IsSettledPair i j
    settled_before zero i j below pair = absurd (omega (arith, below))
    settled_before (suc m) i j below pair =
        by_degree j (λ k l near other. settled_before m k l (omega (arith, near, below)) other)
        (suc (lcm_sum rows i j)) i (omega arith) pair

    pub all_settled : (i j : ℕ) → IsPair rows i j → IsSettledPair i j
    all_settled i j pair = settled_before (suc j) i j (omega arith) pair
