-- A basis within a limit is within each greater one.
use Rattle.std.proofs.Common.{◌≤◌, ℕ, List, [], ◌∷◌, arith}
use Rattle.sf_algebra.specs.Rings.{Weights}
use Rattle.sf_algebra.specs.Terms.{Term}
use Rattle.sf_algebra.specs.Vectors.{Place, Vector}
use Rattle.sf_algebra.proofs.Basics.Lists.{AllByRecursion-weaken}
use Rattle.sf_groebner.specs.Small.{HasLeadUpTo, IsWithinLimit}

lead_within : (weights : Weights) (limit more : ℕ) → limit ≤ more → (ts : List (Term Place)) → HasLeadUpTo weights limit ts
    → HasLeadUpTo weights more ts
lead_within weights limit more le [] h = tt
lead_within weights limit more le (t ∷ ts) h = omega (arith, le, h)

pub within_more : (weights : Weights) (limit more : ℕ) (basis : List Vector) → limit ≤ more → IsWithinLimit weights limit basis
    → IsWithinLimit weights more basis
within_more weights limit more basis le h = record {
  few = h.few;
  low = AllByRecursion-weaken _ _ (λ (v : Vector) k. lead_within weights limit more le v.terms k) basis h.low;
}
