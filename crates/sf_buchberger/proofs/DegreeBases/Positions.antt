-- What holds of the items between two positions of a list.
use Rattle.std.proofs.Common.{◌≡◌, inl, inr, ℕ, zero, suc, ◌+◌, ◌<◌, ◌≤◌, List, [], ◌∷◌, length, drop, Some, slice_get, refl, sym, ◌∙◌, ap, subst, arith}
use Rattle.std.proofs.lemmas.Bool.{cases_lt}
use Rattle.std.specs.List.{AllByRecursion}

-- P holds of each item from one position on and before another one
abbrev pub HoldsBetween : {X : Type 0} → (X → Type 0) → List X → ℕ → ℕ → Type 0
HoldsBetween {X} P xs from to = (k : ℕ) → from ≤ k → k < to → (x : X) → slice_get xs k ≡ Some x → P x

pub HoldsBetween-none : {X : Type 0} (P : X → Type 0) (xs : List X) (from : ℕ) → HoldsBetween P xs from from
HoldsBetween-none P xs from k low high x read = absurd (omega arith)

-- one item more
pub HoldsBetween-more : {X : Type 0} (P : X → Type 0) (xs : List X) (from i : ℕ) (u : X) → slice_get xs i ≡ Some u → P u
    → HoldsBetween P xs from i → HoldsBetween P xs from (i + 1)
HoldsBetween-more P xs from i u here holds before k low high x read =
    elim (cases_lt k i) [
      | inl earlier ↦ before k low earlier x read
      | inr later ↦
          let same : k ≡ i = omega arith in
          let both : Some u ≡ Some x = sym here ∙ ap (slice_get xs) (sym same) ∙ read in
          let equal : u ≡ x = cc in
          subst P equal holds
    ]

-- all items from a position on
pub HoldsBetween-all : {X : Type 0} (P : X → Type 0) (xs : List X) (from to : ℕ) → length xs ≤ to → HoldsBetween P xs from to
    → AllByRecursion P (drop from xs)
HoldsBetween-all P [] zero to size holds = tt
HoldsBetween-all P [] (suc from) to size holds = tt
HoldsBetween-all P (x ∷ xs) zero to size holds =
    (holds 0 (omega arith) (omega arith) x refl, HoldsBetween-all P xs zero (length xs) (omega arith) (λ k low high y read. holds (suc k) (omega arith) (omega arith) y read))
HoldsBetween-all P (x ∷ xs) (suc from) to size holds =
    HoldsBetween-all P xs from (length xs) (omega arith) (λ k low high y read. holds (suc k) (omega arith) (omega arith) y read)
