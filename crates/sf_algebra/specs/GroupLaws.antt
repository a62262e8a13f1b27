-- What holds of sums and negatives of canonical lists, in an order cmp of the places at which terms stand: they are a
-- commutative group. (Any textbook of algebra.)
use Rattle.std.specs.Prelude.{◌≡◌, ℕ, ◌<◌, List, []}
use Rattle.std.specs.declared.cmp.Ordering.{Ordering}
use Rattle.sf_algebra.specs.Multiples.{negative}
use Rattle.sf_algebra.specs.Residues.{sum_mod}
use Rattle.sf_algebra.specs.Sums.{add, coefficient_at}
use Rattle.sf_algebra.specs.Terms.{Term, IsCanonical}

-- a sum is canonical
abbrev pub HasCanonicalSums : {K : Type 0} → (K → K → Ordering) → Type 0
HasCanonicalSums {K} cmp = (p : ℕ) → 0 < p → (us vs : List (Term K)) → IsCanonical cmp p (add cmp p us vs)

-- the coefficients of a sum are the sums of the coefficients
abbrev pub AddsCoefficients : {K : Type 0} → (K → K → Ordering) → Type 0
AddsCoefficients {K} cmp =
    (p : ℕ) (us vs : List (Term K)) (k : K) → coefficient_at cmp p k (add cmp p us vs) ≡ sum_mod p
    (coefficient_at cmp p k us) (coefficient_at cmp p k vs)

-- the terms of a sum may be exchanged
abbrev pub HasCommutativeSums : {K : Type 0} → (K → K → Ordering) → Type 0
HasCommutativeSums {K} cmp = (p : ℕ) → 0 < p → (us vs : List (Term K)) → add cmp p us vs ≡ add cmp p vs us

-- three terms of a sum may be grouped either way
abbrev pub HasAssociativeSums : {K : Type 0} → (K → K → Ordering) → Type 0
HasAssociativeSums {K} cmp =
    (p : ℕ) → 0 < p → (us vs ws : List (Term K)) → add cmp p (add cmp p us vs) ws ≡ add cmp p us (add cmp p vs ws)

-- the empty list is the zero
abbrev pub HasZero : {K : Type 0} → (K → K → Ordering) → Type 0
HasZero {K} cmp = (p : ℕ) → 0 < p → (us : List (Term K)) → IsCanonical cmp p us → add cmp p us [] ≡ us

-- the negative of a canonical list is canonical
abbrev pub HasCanonicalNegatives : {K : Type 0} → (K → K → Ordering) → Type 0
HasCanonicalNegatives {K} cmp = (p : ℕ) (us : List (Term K)) → IsCanonical cmp p us → IsCanonical cmp p (negative p us)

-- the sum of a canonical list and its negative is zero
abbrev pub HasNegatives : {K : Type 0} → (K → K → Ordering) → Type 0
HasNegatives {K} cmp = (p : ℕ) → 0 < p → (us : List (Term K)) → IsCanonical cmp p us → add cmp p us (negative p us) ≡ []
