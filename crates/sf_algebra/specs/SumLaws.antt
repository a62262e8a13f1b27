-- What holds of sums of terms, in an order cmp of the places at which they stand.
use Rattle.std.specs.Prelude.{◌≡◌, ℕ, ◌<◌, List, ◌++◌}
use Rattle.std.specs.declared.cmp.Ordering.{Ordering}
use Rattle.std.specs.List.Sorted.{IsPermutation}
use Rattle.sf_algebra.specs.Sums.{normal, add, coefficient_at}
use Rattle.sf_algebra.specs.Terms.{Term, IsCanonical}

-- a list of terms means a canonical list
abbrev pub MeansCanonicalList : {K : Type 0} → (K → K → Ordering) → Type 0
MeansCanonicalList {K} cmp = (p : ℕ) → 0 < p → (ts : List (Term K)) → IsCanonical cmp p (normal cmp p ts)

-- the canonical list has the coefficients of the list of terms
abbrev pub KeepsCoefficients : {K : Type 0} → (K → K → Ordering) → Type 0
KeepsCoefficients {K} cmp =
    (p : ℕ) (ts : List (Term K)) (k : K) → coefficient_at cmp p k (normal cmp p ts) ≡ coefficient_at cmp p k ts

-- canonical lists with equal coefficients are equal
abbrev pub IsSetByCoefficients : {K : Type 0} → (K → K → Ordering) → Type 0
IsSetByCoefficients {K} cmp =
    (p : ℕ) → 0 < p → (us vs : List (Term K)) → IsCanonical cmp p us → IsCanonical cmp p vs
    → ((k : K) → coefficient_at cmp p k us ≡ coefficient_at cmp p k vs) → us ≡ vs

-- the terms may stand in any order
abbrev pub TakesAnyOrder : {K : Type 0} → (K → K → Ordering) → Type 0
TakesAnyOrder {K} cmp =
    (p : ℕ) → 0 < p → (ts us : List (Term K)) → IsPermutation ts us → normal cmp p us ≡ normal cmp p ts

-- two lists one after the other mean the sum of what each means
abbrev pub MeansSumOfParts : {K : Type 0} → (K → K → Ordering) → Type 0
MeansSumOfParts {K} cmp =
    (p : ℕ) → 0 < p → (ts us : List (Term K)) → normal cmp p (ts ++ us) ≡ add cmp p (normal cmp p ts) (normal cmp p us)
