-- Sums of terms in any order. The terms that stand at one place meet in one, whose coefficient is the sum of theirs
-- modulo p; a zero is left out. So a list of terms means a canonical list, which descends in the order cmp. (Textbook.)
use Rattle.std.specs.Prelude.{ℕ, zero, suc, ◌%◌, if◌then◌else◌, List, [], ◌∷◌, ◌++◌, sum_by}
use Rattle.std.specs.declared.cmp.Ordering.{Ordering}
use Rattle.std.specs.Ordering.{is_eq, match_ordering}
use Rattle.sf_algebra.specs.Residues.{sum_mod}
use Rattle.sf_algebra.specs.Terms.{Term}

-- a list with a term in front, which is left out where its coefficient is 0
abbrev pub put : {K : Type 0} → K → ℕ → List (Term K) → List (Term K)
put k zero us = us
put k (suc c) us = record { at = k; coefficient = suc c } ∷ us

-- a canonical list with one more term
unfoldable pub insert : {K : Type 0} → (K → K → Ordering) → ℕ → Term K → List (Term K) → List (Term K)
insert cmp p t [] = put t.at (t.coefficient % p) []
insert cmp p t (u ∷ us) =
    match_ordering (cmp t.at u.at)
    (u ∷ insert cmp p t us)
    (put t.at (sum_mod p t.coefficient u.coefficient) us)
    (put t.at (t.coefficient % p) (u ∷ us))

-- the canonical list that a list of terms means
unfoldable pub normal : {K : Type 0} → (K → K → Ordering) → ℕ → List (Term K) → List (Term K)
normal cmp p [] = []
normal cmp p (t ∷ ts) = insert cmp p t (normal cmp p ts)

-- the sum of two canonical lists
unfoldable pub add : {K : Type 0} → (K → K → Ordering) → ℕ → List (Term K) → List (Term K) → List (Term K)
add cmp p us vs = normal cmp p (us ++ vs)

-- the sum modulo p of a number for each term
unfoldable pub total : {K : Type 0} → ℕ → (Term K → ℕ) → List (Term K) → ℕ
total p g ts = sum_by g ts % p

-- the coefficient of a term that stands at k, and 0 elsewhere
abbrev pub part_at : {K : Type 0} → (K → K → Ordering) → K → Term K → ℕ
part_at cmp k t = if is_eq (cmp t.at k) then t.coefficient else 0

-- the coefficient of a list of terms at k: the sum modulo p of the coefficients that stand there
abbrev pub coefficient_at : {K : Type 0} → (K → K → Ordering) → ℕ → K → List (Term K) → ℕ
coefficient_at cmp p k ts = total p (part_at cmp k) ts
