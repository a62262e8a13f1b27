-- That a list is canonical, or a vector homogeneous, has at most one proof; so values that carry this are equal where
-- their terms are.
use Rattle.std.proofs.Common.{◌≡◌, ℕ, List, [], ◌∷◌, ℤ}
use Rattle.std.proofs.Props.{props}
use Rattle.std.specs.declared.cmp.Ordering.{Ordering}
use mathlib.Core.HLevel.{Σ_prop_path}
use Rattle.sf_algebra.specs.Rings.{Ring}
use Rattle.sf_algebra.specs.Terms.{Term, IsDescending, IsCanonical}
use Rattle.sf_algebra.specs.Vectors.{Place, Vector, place_cmp, IsVector}

IsDescending-prop : {K : Type 0} (cmp : K → K → Ordering) (ts : List (Term K)) → IsProp (IsDescending cmp ts)
IsDescending-prop cmp [] = hlevel props
IsDescending-prop cmp (t ∷ ts) = let rest = IsDescending-prop cmp ts in hlevel (props, rest)

pub IsCanonical-prop : {K : Type 0} (cmp : K → K → Ordering) (p : ℕ) (ts : List (Term K))
    → IsProp (IsCanonical cmp p ts)
IsCanonical-prop cmp p ts = let descending = IsDescending-prop cmp ts in hlevel (props, descending)

pub IsVector-prop : (ring : Ring) (degrees : List ℤ) (v : Vector) → IsProp (IsVector ring degrees v)
IsVector-prop ring degrees v =
    let canonical = IsCanonical-prop (place_cmp ring.weights) ring.modulus v.terms in hlevel (props, canonical)

-- canonical lists, each with the proof that it is
pub same_canonical : {K : Type 0} (cmp : K → K → Ordering) (p : ℕ) (u v : (ts : List (Term K)) × IsCanonical cmp p ts)
    → u.0 ≡ v.0 → u ≡ v
same_canonical cmp p u v e = Σ_prop_path (IsCanonical-prop cmp p) e

-- vectors of degree d, each with the proof that it is
pub vector_unique : (ring : Ring) (degrees : List ℤ) (d : ℤ)
    (u v : (ts : List (Term Place)) × IsVector ring degrees (record { degree = d; terms = ts })) → u.0 ≡ v.0 → u ≡ v
vector_unique ring degrees d u v e = Σ_prop_path (λ ts. IsVector-prop ring degrees (record { degree = d; terms = ts })) e
