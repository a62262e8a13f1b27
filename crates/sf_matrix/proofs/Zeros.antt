-- The test whether anything is left of a vector.
use Rattle.std.proofs.Common.{◌≡◌, ◌↔◌, not, List, [], ◌∷◌, refl}
use Rattle.std.specs.Prelude.{IsTrue}
use Rattle.sf_algebra.specs.Terms.{Term}
use Rattle.sf_algebra.specs.Vectors.{Place}
use Rattle.sf_groebner.specs.Cuts.{has_terms}

-- told of its terms
pub is_zero-tests : (ts : List (Term Place)) → IsTrue (not (has_terms ts)) ↔ (ts ≡ [])
is_zero-tests [] = (λ e. refl, λ e. refl)
is_zero-tests (t ∷ ts) = (λ e. cc, λ e. cc)
