-- Schreyer's theorem with the chain criterion: pairs that the criterion drops need no syzygy. (Cox, Little, O'Shea,
-- "Using Algebraic Geometry", chapter 5, section 3.)
use Rattle.std.proofs.Common.{◌≡◌, ℕ, ◌<◌, List, [], ◌∷◌, length, ⊎_elim, inl, inr}
use Rattle.std.specs.List.{AllByRecursion}
use Rattle.sf_algebra.specs.MatrixOperations.{row_at, row_combination}
use Rattle.sf_algebra.specs.Rings.{Ring, IsRing}
use Rattle.sf_algebra.specs.Terms.{Term}
use Rattle.sf_algebra.specs.Vectors.{Place, Vector}
use Rattle.sf_groebner.specs.Criterion.{HaveLeadsAtOnePosition, IsForRows, IsMonicRow, IsPairSyzygy, lead_at, pair_place, s_coefficients}
use Rattle.sf_groebner.proofs.PairLoops.HandledPairs.{IsChained, IsEarlierPair, IsHandled, IsHandled-either}
use Rattle.sf_groebner.proofs.PairTheorems.Buchberger.{IsInside}
use Rattle.sf_groebner.proofs.PairTheorems.Kernels.{settled-syzygy}
use Rattle.sf_groebner.proofs.PairTheorems.LeadMultiples.{IsSettled}
use Rattle.sf_groebner.proofs.PairTheorems.Pairs.{IsSettled-chain, IsSettled-turn, same_lead_position}
use Rattle.sf_groebner.proofs.PairTheorems.Schreyer.{IsSpanned, IsSpanned-module, IsSpanned-row, SameTotals-from_sum, schreyer_at}

-- one of the rows zs is a syzygy of the pair
abbrev pub HasPairSyzygy : Ring → List Vector → List Vector → ℕ → ℕ → Type 0
HasPairSyzygy ring rows zs i j = (k : ℕ) × (k < length zs) × IsPairSyzygy ring rows i j (row_at zs k)

module _ (ring : Ring) (positive : IsRing ring) (rows zs : List Vector) where
  -- a pair is settled by the combinations of zs
  abbrev pub IsSettledBySyzygies : ℕ → ℕ → Type 0
  IsSettledBySyzygies i j =
      IsSettled ring (IsInside rows) (lead_at rows) (IsSpanned ring zs) (pair_place (lead_at rows) i j)
      (pair_place (lead_at rows) j i)

  pub IsSettled-syzygy : (i j : ℕ) → HaveLeadsAtOnePosition rows i j → HasPairSyzygy ring rows zs i j
      → IsSettledBySyzygies i j
  IsSettled-syzygy i j positions found =
      settled-syzygy ring positive rows (IsInside rows) (lead_at rows) i j positions (IsSpanned ring zs) found.2.steps
      (row_at zs found.0) found.2.below
      (IsSpanned-row ring positive zs found.0 found.1)
      (SameTotals-from_sum ring (row_at zs found.0) found.2.steps (s_coefficients ring.modulus (lead_at rows) i j) found.2.sum)

  -- the pairs that were handled, each by a syzygy or by the chain criterion, are settled
  IsHandled-settled : (handled : List (ℕ × ℕ)) → IsHandled (HasPairSyzygy ring rows zs) rows handled
      → IsHandled IsSettledBySyzygies rows handled
  IsHandled-settled [] h = tt
  IsHandled-settled (x ∷ earlier) h = (
    h.0,
    ⊎_elim (λ (found : HasPairSyzygy ring rows zs x.0 x.1). inl (IsSettled-syzygy x.0 x.1 h.0 found))
        (λ (chained : IsChained rows earlier x.0 x.1). inr chained) h.1,
    IsHandled-settled earlier h.2,
  )

  pub schreyer_handled : AllByRecursion (λ (z : Vector). row_combination ring rows z.terms ≡ []) zs
      → AllByRecursion (IsMonicRow ring) rows
      → (handled : List (ℕ × ℕ)) → IsHandled (HasPairSyzygy ring rows zs) rows handled
      → ((i j : ℕ) → i < j → j < length rows → HaveLeadsAtOnePosition rows i j → IsEarlierPair handled i j)
      → (c : List (Term Place)) → AllByRecursion (IsForRows rows) c → row_combination ring rows c ≡ []
      → IsSpanned ring zs c
  schreyer_handled syzygies monic handled h all =
      schreyer_at ring positive rows zs syzygies monic (IsInside rows) (λ k inside. inside)
      (λ j k j_in k_in e earlier.
      let positions = same_lead_position (lead_at rows) j k e in
      IsHandled-either rows IsSettledBySyzygies
      (IsSettled-turn ring positive (IsSpanned ring zs) (IsSpanned-module ring positive zs) (IsInside rows) (lead_at rows))
      (IsSettled-chain ring (IsSpanned ring zs) (IsSpanned-module ring positive zs) (λ n. n < length rows) (lead_at rows))
      handled (IsHandled-settled handled h) j.position k.position positions
      (all j.position k.position earlier k_in positions))
