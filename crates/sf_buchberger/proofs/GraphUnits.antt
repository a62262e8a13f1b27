-- The rows of a graph, one after another.
use Rattle.std.proofs.Common.{◌≡◌, ℕ, zero, suc, ◌+◌, ◌<◌, List, [], ◌∷◌, ◌++◌, Some, take, ◌∙◌, ap, subst, add-one, arith}
use Rattle.std.specs.declared.cmp.Ordering.TheVariants.{Less}
use Rattle.std.specs.List.{AllByRecursion, slice_get}
use Rattle.sf_algebra.specs.Monomials.{Monomial}
use Rattle.sf_algebra.specs.Rings.{Weights}
use Rattle.sf_algebra.specs.Terms.{Term}
use Rattle.sf_algebra.specs.Vectors.{Place, Vector, place_cmp}
use Rattle.sf_algebra.proofs.Basics.Lists.{AllByRecursion-weaken}
use Rattle.sf_algebra.proofs.Vectors.Positions.{place_cmp-later}
use Rattle.sf_groebner.specs.GraphRows.{with_units}
use Rattle.sf_matrix.specs.Places.{place_of}
use Rattle.sf_buchberger.specs.GraphBases.{with_unit}

-- a term behind all others is less than each
pub last_place : (weights : Weights) (n : ℕ) (a : Monomial) (ts : List (Term Place))
    → AllByRecursion (λ (t : Term Place). t.at.position < n) ts
    → AllByRecursion (λ (t : Term Place). place_cmp weights (place_of n a) t.at ≡ Less) ts
last_place weights n a ts h =
    AllByRecursion-weaken _ _ (λ (t : Term Place) behind. place_cmp-later weights (place_of n a) t.at behind) ts h

with_units-suc : (n : ℕ) (vs : List Vector) (i : ℕ) (v : Vector) → slice_get vs i ≡ Some v
    → with_units n (take (suc i) vs) ≡ with_units n (take i vs) ++ with_unit (n + i) v ∷ []
unfolding with_units
with_units-suc n [] i v e = cc
with_units-suc n (w ∷ ws) zero v e =
    let same : w ≡ v = cc in
    let sum : n ≡ n + 0 = omega arith in λ i. with_unit (sum i) (same i) ∷ []
with_units-suc n (w ∷ ws) (suc i) v e =
    let sum : suc n + i ≡ n + suc i = omega arith in
    ap (λ vs. with_unit n w ∷ vs) (with_units-suc (suc n) ws i v e ∙ ap (λ k. with_units (suc n) (take i ws) ++ with_unit k v ∷ []) sum)

-- one row more
pub with_units-take : (n : ℕ) (vs : List Vector) (i : ℕ) (v : Vector) → slice_get vs i ≡ Some v
    → with_units n (take (i + 1) vs) ≡ with_units n (take i vs) ++ with_unit (n + i) v ∷ []
with_units-take n vs i v e = rw add-one (with_units-suc n vs i v e)

-- a fact of each
pub AllByRecursion-with_units : (P : Vector → Type 0) (n : ℕ) (vs : List Vector) (i : ℕ) (v : Vector)
    → AllByRecursion P (with_units n vs) → slice_get vs i ≡ Some v → P (with_unit (n + i) v)
unfolding with_units
AllByRecursion-with_units P n [] i v h e = cc
AllByRecursion-with_units P n (w ∷ ws) zero v h e =
    let same : w ≡ v = cc in
    let sum : n ≡ n + 0 = omega arith in subst P (λ i. with_unit (sum i) (same i)) h.0
AllByRecursion-with_units P n (w ∷ ws) (suc i) v h e =
    let sum : suc n + i ≡ n + suc i = omega arith in
    subst (λ k. P (with_unit k v)) sum (AllByRecursion-with_units P (suc n) ws i v h.1 e)
