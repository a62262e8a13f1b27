-- Leads of parts of vectors.
use Rattle.std.proofs.Common.{◌≡◌, inl, inr, true, false, ◌&&◌, ◌-◌, eqb, ℕ, ◌<◌, ◌≤◌, List, [], ◌∷◌, refl, sym, ◌∙◌, ap, arith}
use Rattle.std.specs.List.{AllByRecursion}
use Rattle.std.specs.Ordering.{nat_cmp, ordering_then}
use Rattle.std.proofs.lemmas.Bool.{cases_lt}
use Rattle.std.proofs.lemmas.Bool.Decides.{nat_tests}
use Rattle.sf_algebra.specs.MatrixOperations.{part_terms}
use Rattle.sf_algebra.specs.Monomials.{monomial_cmp}
use Rattle.sf_algebra.specs.Rings.{Weights}
use Rattle.sf_algebra.specs.Terms.{Term, IsDescending}
use Rattle.sf_algebra.specs.Vectors.{Place, place_cmp}
use Rattle.sf_algebra.proofs.GradedMatrices.PartTerms.{moved_back, IsBetween, part_terms-inside, part_terms-outside}
use Rattle.sf_algebra.proofs.Vectors.Entries.{IsDescending-positions}
use Rattle.sf_groebner.specs.Cuts.{has_terms}
use Rattle.sf_groebner.specs.Leads.{divides}
use Rattle.sf_groebner.specs.ReducedBases.{lead_divides, lead_cmp}

-- the lead of a list stands in the range
abbrev pub HasLeadBetween : ℕ → ℕ → List (Term Place) → Type 0
HasLeadBetween from to [] = ⊥
HasLeadBetween from to (t ∷ ts) = IsBetween from to t.at.position

eqb-sub : (k m n : ℕ) → k ≤ m → k ≤ n → eqb (m - k) (n - k) ≡ eqb m n
eqb-sub k m n first second = grind (arith, nat_tests)

nat_cmp-sub : (k m n : ℕ) → k ≤ m → k ≤ n → nat_cmp (m - k) (n - k) ≡ nat_cmp m n
nat_cmp-sub k m n first second = grind (arith, nat_tests)

module _ (from to : ℕ) where
  -- a lead in the range divides, once both are moved, what it divided before
  pub lead_divides-part : (ts : List (Term Place)) (u : Term Place) → HasLeadBetween from to ts → from ≤ u.at.position
      → lead_divides (part_terms from to ts) (moved_back from u).at ≡ lead_divides ts u.at
  lead_divides-part [] u h reached = absurd h
  lead_divides-part (t ∷ ts) u h reached =
      ap (λ l. lead_divides l (moved_back from u).at) (part_terms-inside from to t ts h.0 h.1)
      ∙ ap (λ b. b && divides t.at.monomial u.at.monomial) (eqb-sub from t.at.position u.at.position h.0 reached)

  -- leads in the range compare as before
  pub lead_cmp-part : (weights : Weights) (ts us : List (Term Place)) → HasLeadBetween from to ts
      → HasLeadBetween from to us
      → lead_cmp weights (part_terms from to ts) (part_terms from to us) ≡ lead_cmp weights ts us
  lead_cmp-part weights [] us h k = absurd h
  lead_cmp-part weights (t ∷ ts) [] h k = absurd k
  lead_cmp-part weights (t ∷ ts) (u ∷ us) h k =
      (λ i. lead_cmp weights (part_terms-inside from to t ts h.0 h.1 i) (part_terms-inside from to u us k.0 k.1 i))
      ∙ ap (λ o. ordering_then o (monomial_cmp weights t.at.monomial u.at.monomial))
      (nat_cmp-sub from u.at.position t.at.position k.0 h.0)

-- where all terms stand at the positions from n on, there is none before
pub part_terms-past : (n : ℕ) (ts : List (Term Place)) → AllByRecursion (λ t. n ≤ t.at.position) ts
    → part_terms 0 n ts ≡ []
part_terms-past n [] h = refl
part_terms-past n (t ∷ ts) h = part_terms-outside 0 n t ts (inr h.0) ∙ part_terms-past n ts h.1

-- where all terms stand before `from`, there is none behind
pub part_terms-before : (from to : ℕ) (ts : List (Term Place)) → AllByRecursion (λ t. t.at.position < from) ts
    → part_terms from to ts ≡ []
part_terms-before from to [] h = refl
part_terms-before from to (t ∷ ts) h = part_terms-outside from to t ts (inl h.0) ∙ part_terms-before from to ts h.1

-- no term of a descending list stands before its lead
pub later_positions : (weights : Weights) (n : ℕ) (t : Term Place) (ts : List (Term Place))
    → IsDescending (place_cmp weights) (t ∷ ts) → n ≤ t.at.position → AllByRecursion (λ u. n ≤ u.at.position) (t ∷ ts)
later_positions weights n t ts h reached = (reached, weaken ts (IsDescending-positions weights t ts h))
  where
    weaken : (us : List (Term Place)) → AllByRecursion (λ u. t.at.position ≤ u.at.position) us
        → AllByRecursion (λ u. n ≤ u.at.position) us
    weaken [] k = tt
    weaken (u ∷ us) k = (let le : t.at.position ≤ u.at.position = k.0 in omega arith, weaken us k.1)

-- a descending list has a term at the first n positions where its lead stands there, and there alone
module _ (n : ℕ) (t : Term Place) (ts : List (Term Place)) where
  pub has_terms-first : t.at.position < n → has_terms (part_terms 0 n (t ∷ ts)) ≡ true
  has_terms-first within = ap has_terms (part_terms-inside 0 n t ts (omega arith) within)

  pub has_terms-later : (weights : Weights) → IsDescending (place_cmp weights) (t ∷ ts) → n ≤ t.at.position
      → has_terms (part_terms 0 n (t ∷ ts)) ≡ false
  has_terms-later weights h reached =
      ap has_terms (part_terms-past n (t ∷ ts) (later_positions weights n t ts h reached))

  pub has_terms-position : (weights : Weights) → IsDescending (place_cmp weights) (t ∷ ts)
      → has_terms (part_terms 0 n (t ∷ ts)) ≡ true → t.at.position < n
  has_terms-position weights h e =
      elim (cases_lt t.at.position n) [
        | inl within ↦ within
        | inr reached ↦ let no =
            has_terms-later weights h reached in absurd (let clash : true ≡ false = sym e ∙ no in cc)
      ]

  pub has_no_terms-position : has_terms (part_terms 0 n (t ∷ ts)) ≡ false → n ≤ t.at.position
  has_no_terms-position e =
      elim (cases_lt t.at.position n) [
        | inl within ↦ let some = has_terms-first within in absurd (let clash : true ≡ false = sym some ∙ e in cc)
        | inr reached ↦ reached
      ]

pub has_terms-none : (ts : List (Term Place)) → has_terms ts ≡ false → ts ≡ []
has_terms-none [] e = refl
has_terms-none (t ∷ ts) e = cc
