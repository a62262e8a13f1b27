-- Reduced vectors that differ by a vector of the module are equal.
use Rattle.std.proofs.Common.{◌≡◌, true, false, Bool, List, [], ◌∷◌, refl}
use Rattle.std.specs.Bool.{IsFalse}
use Rattle.sf_algebra.specs.Multiples.{negative}
use Rattle.sf_algebra.specs.Rings.{Ring, IsRing}
use Rattle.sf_algebra.specs.Terms.{Term}
use Rattle.sf_algebra.specs.VectorOperations.{row_sum, vector_difference}
use Rattle.sf_algebra.specs.Vectors.{Place, Vector, place_cmp, IsCanonicalRow}
use Rattle.sf_algebra.proofs.Multiplying.Keys.{place_keys}
use Rattle.sf_algebra.proofs.Terms.Negatives.{EachPlace-negative}
use Rattle.sf_algebra.proofs.Terms.Normal.{EachPlace-add}
use Rattle.sf_groebner.specs.ReducedBases.{is_divided, HasDividedLead, IsReducedBy}
use Rattle.sf_groebner.proofs.Uniqueness.Differences.{add-negative_same}

-- what is reduced and has a divided lead is 0
pub IsReducedBy-none : (basis : List Vector) (ts : List (Term Place)) → IsReducedBy basis ts → HasDividedLead basis ts
    → ts ≡ []
IsReducedBy-none basis [] free divided = refl
IsReducedBy-none basis (t ∷ ts) free divided = absurd (clash (is_divided basis t.at) divided free.0)
  where
    clash : (b : Bool) → b ≡ true → b ≡ false → ⊥
    clash b h k = cc

pub same_reduced : (ring : Ring) → IsRing ring → (basis : List Vector) (u v : Vector) → IsCanonicalRow ring u.terms
    → IsCanonicalRow ring v.terms
    → HasDividedLead basis (vector_difference ring u v).terms → IsReducedBy basis u.terms → IsReducedBy basis v.terms
    → u.terms ≡ v.terms
same_reduced ring positive basis u v h k divided free_u free_v =
    add-negative_same (place_keys ring.weights) ring.modulus positive.modulus u.terms v.terms h k
    (IsReducedBy-none basis (row_sum ring u.terms (negative ring.modulus v.terms))
    (EachPlace-add (λ l. IsFalse (is_divided basis l)) (place_cmp ring.weights) ring.modulus u.terms (negative ring.modulus v.terms) free_u (EachPlace-negative (λ l. IsFalse (is_divided basis l)) ring.modulus v.terms free_v))
    divided)
