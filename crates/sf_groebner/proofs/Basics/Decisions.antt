-- What is asked of a small matrix is decided.
use Rattle.std.proofs.Common.{◌⊎◌, inl, inr, ℕ, ◌≤◌, List, [], ◌∷◌, length, arith, ℤ, pos, neg_ℤ, ◌≤ℤ◌}
use Rattle.std.proofs.lemmas.Bool.{cases_lt}
use Rattle.std.proofs.lemmas.Int.{by_lt_z}
use Rattle.std.specs.Int.Signed.{clash_ℤ}
use Rattle.std.specs.List.{AllByRecursion}
use Rattle.sf_algebra.specs.Bounds.{GREATEST_SIZE, HasSmallSize, IsSmallDegree}
use Rattle.sf_algebra.specs.Matrices.{Matrix, row_degrees}
use Rattle.sf_algebra.specs.Monomials.{monomial_degree}
use Rattle.sf_algebra.specs.Rings.{Weights}
use Rattle.sf_algebra.specs.Terms.{Term}
use Rattle.sf_algebra.specs.Vectors.{Place, Vector}
use Rattle.sf_groebner.specs.Small.{HasLeadUpTo, IsWithinLimit}

-- a fact holds or doesn't
abbrev pub IsDecided : Type 0 → Type 0
IsDecided P = P ⊎ (P → ⊥)

pub decide_le : (a b : ℕ) → IsDecided (a ≤ b)
decide_le a b = elim (cases_lt b a) [ inl greater ↦ inr (λ le. omega arith) | inr le ↦ inl le ]

pub decide_le_ℤ : (a b : ℤ) → IsDecided (a ≤ℤ b)
decide_le_ℤ a b = by_lt_z b a (λ greater. inr (λ le. clash_ℤ greater le)) (λ le. inl le)

pub decide_both : (P Q : Type 0) → IsDecided P → IsDecided Q → IsDecided (P × Q)
decide_both P Q (inr fails) q = inr (λ h. fails h.0)
decide_both P Q (inl held) (inr fails) = inr (λ h. fails h.1)
decide_both P Q (inl held) (inl other) = inl (held, other)

pub decide_each : {X : Type 0} (P : X → Type 0) → ((x : X) → IsDecided (P x)) → (xs : List X)
    → IsDecided (AllByRecursion P xs)
decide_each P decide [] = inl tt
decide_each P decide (x ∷ xs) = decide_both (P x) (AllByRecursion P xs) (decide x) (decide_each P decide xs)

-- a fact that another is worth
pub decide_from : (P Q : Type 0) → (P → Q) → (Q → P) → IsDecided P → IsDecided Q
decide_from P Q to from (inl held) = inl (to held)
decide_from P Q to from (inr fails) = inr (λ h. fails (from h))

decide_small_degree : (d : ℤ) → IsDecided (IsSmallDegree d)
decide_small_degree d = decide_both _ _ (decide_le_ℤ (neg_ℤ (pos 8000)) d) (decide_le_ℤ d (pos 8000))

decide_lead : (weights : Weights) (limit : ℕ) (ts : List (Term Place)) → IsDecided (HasLeadUpTo weights limit ts)
decide_lead weights limit [] = inl tt
decide_lead weights limit (t ∷ ts) = decide_le (monomial_degree weights t.at.monomial) limit

pub decide_within_limit : (weights : Weights) (limit : ℕ) (basis : List Vector)
    → IsDecided (IsWithinLimit weights limit basis)
decide_within_limit weights limit basis =
    decide_from _ _ (λ h. record { few = h.0; low = h.1 }) (λ h. (h.few, h.low))
    (decide_both (length basis ≤ GREATEST_SIZE) (AllByRecursion (λ (v : Vector). HasLeadUpTo weights limit v.terms) basis)
    (decide_le (length basis) GREATEST_SIZE)
    (decide_each (λ (v : Vector). HasLeadUpTo weights limit v.terms) (λ (v : Vector). decide_lead weights limit v.terms) basis))

pub decide_small_size : (m : Matrix) → IsDecided (HasSmallSize m)
decide_small_size m =
    decide_from _ _ (λ h. record { rows = h.0.0; columns = h.0.1; row_degrees = h.1.0; column_degrees = h.1.1 })
    (λ h. ((h.rows, h.columns), (h.row_degrees, h.column_degrees)))
    (decide_both ((length m.rows ≤ GREATEST_SIZE) × (length m.target ≤ GREATEST_SIZE)) (AllByRecursion IsSmallDegree (row_degrees m) × AllByRecursion IsSmallDegree m.target)
    (decide_both _ _ (decide_le (length m.rows) GREATEST_SIZE) (decide_le (length m.target) GREATEST_SIZE))
    (decide_both _ _ (decide_each IsSmallDegree decide_small_degree (row_degrees m)) (decide_each IsSmallDegree decide_small_degree m.target)))
