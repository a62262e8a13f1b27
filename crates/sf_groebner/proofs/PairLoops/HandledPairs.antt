-- The chain criterion over all pairs that a computation handled.
use Rattle.std.proofs.Common.{◌⊎◌, ⊎_elim, inl, inr, ℕ, List, [], ◌∷◌, sym, ◌∙◌, subst}
use Rattle.sf_algebra.specs.Rings.{Ring, IsRing}
use Rattle.sf_algebra.specs.Vectors.{Vector}
use Rattle.sf_groebner.specs.Criterion.{HaveLeadsAtOnePosition, ReducesToZero, lcm_place, lead_at}
use Rattle.sf_groebner.specs.Leads.{PlaceDivides}
use Rattle.sf_groebner.proofs.PairLoops.PendingPairs.{IsWaiting}
use Rattle.sf_groebner.proofs.PairTheorems.Buchberger.{ReducesToZero-chain, ReducesToZero-sym}

-- a pair was handled before, in either order
abbrev pub IsEarlierPair : List (ℕ × ℕ) → ℕ → ℕ → Type 0
IsEarlierPair earlier i j = IsWaiting i j earlier ⊎ IsWaiting j i earlier

-- the lead of a row divides the least common multiple of a pair, and its pairs with that row were handled before
abbrev pub IsChained : List Vector → List (ℕ × ℕ) → ℕ → ℕ → Type 0
IsChained rows earlier i k =
    (j : ℕ) × PlaceDivides (lead_at rows j)
    (lcm_place (lead_at rows) i k) × IsEarlierPair earlier i j × IsEarlierPair earlier j k

-- the pairs that were handled, the last one first: each is good, or is chained
abbrev pub IsHandled : (ℕ → ℕ → Type 0) → List Vector → List (ℕ × ℕ) → Type 0
IsHandled Good rows [] = Unit {0}
IsHandled Good rows (x ∷ earlier) =
    HaveLeadsAtOnePosition rows x.0 x.1 × (Good x.0 x.1 ⊎ IsChained rows earlier x.0 x.1) × IsHandled Good rows earlier

module _ (rows : List Vector) (Good : ℕ → ℕ → Type 0)
    (turn : (i j : ℕ) → HaveLeadsAtOnePosition rows i j → Good i j → Good j i)
    (chain : (i j k : ℕ) → HaveLeadsAtOnePosition rows i k → PlaceDivides (lead_at rows j) (lcm_place (lead_at rows) i k) → Good i j → Good j k → Good i k) where
  either_order : (earlier : List (ℕ × ℕ)) (k l : ℕ) → HaveLeadsAtOnePosition rows k l
      → ((m n : ℕ) → IsWaiting m n earlier → Good m n) → IsEarlierPair earlier k l → Good k l
  either_order earlier k l positions before (inl item) = before k l item
  either_order earlier k l positions before (inr item) = turn l k (sym positions) (before l k item)

  -- where what is good may be turned and chained, all of them are good
  pub IsHandled-good : (handled : List (ℕ × ℕ)) → IsHandled Good rows handled → (i j : ℕ) → IsWaiting i j handled
      → Good i j
  IsHandled-good [] h i j item = absurd item
  IsHandled-good (x ∷ earlier) h i j (inr item) = IsHandled-good earlier h.2 i j item
  IsHandled-good (x ∷ earlier) h i j (inl same) =
      subst (λ (y : ℕ × ℕ). Good y.0 y.1) (sym same)
      (⊎_elim
      (λ (good : Good x.0 x.1). good)
      (λ (chained : IsChained rows earlier x.0 x.1).
      chain x.0 chained.0 x.1 h.0 chained.1
      (either_order earlier x.0 chained.0 (sym chained.1.0) (λ m n item. IsHandled-good earlier h.2 m n item) chained.2)
      (either_order earlier chained.0 x.1 (chained.1.0 ∙ h.0) (λ m n item. IsHandled-good earlier h.2 m n item) chained.3))
      h.1)

  pub IsHandled-either : (handled : List (ℕ × ℕ)) → IsHandled Good rows handled → (i j : ℕ)
      → HaveLeadsAtOnePosition rows i j → IsEarlierPair handled i j → Good i j
  IsHandled-either handled h i j positions earlier =
      either_order handled i j positions (IsHandled-good handled h) earlier

-- all pairs that a computation handled reduce to zero
pub IsHandled-reduces : (ring : Ring) → IsRing ring → (rows : List Vector) (handled : List (ℕ × ℕ))
    → IsHandled (ReducesToZero ring rows) rows handled
    → (i j : ℕ) → HaveLeadsAtOnePosition rows i j → IsEarlierPair handled i j → ReducesToZero ring rows i j
IsHandled-reduces ring positive rows =
    IsHandled-either rows (ReducesToZero ring rows) (ReducesToZero-sym ring positive rows)
    (ReducesToZero-chain ring positive rows)
