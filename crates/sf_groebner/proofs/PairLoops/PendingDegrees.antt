-- Where only pairs of greater degrees wait, homogeneous rows are complete up to a degree.
use Rattle.std.proofs.Common.{⊎_elim, ℕ, List, ℤ, ◌≤ℤ◌}
use Rattle.std.specs.List.{AllByRecursion}
use Rattle.sf_algebra.specs.Matrices.{Matrix, IsMatrix}
use Rattle.sf_algebra.specs.MatrixOperations.{row_combination}
use Rattle.sf_algebra.specs.Rings.{IsRing}
use Rattle.sf_algebra.specs.Vectors.{Vector}
use Rattle.sf_groebner.specs.Criterion.{IsMonicRow, ReducesToZero, HasDegreeUpTo}
use Rattle.sf_groebner.specs.ReducedBases.{HasDividedLead}
use Rattle.sf_groebner.specs.Spans.{IsCoefficients}
use Rattle.sf_groebner.proofs.Basics.Items.{AllByRecursion-item}
use Rattle.sf_groebner.proofs.PairLoops.PendingPairs.{IsPending, IsWaiting}
use Rattle.sf_groebner.proofs.PairTheorems.BoundedCriterion.{buchberger_up_to}

pub IsPending-up_to : (m : Matrix) → IsMatrix m → AllByRecursion (IsMonicRow m.ring) m.rows → IsRing m.ring
    → (d : ℤ) (pending : List (ℕ × ℕ))
    → IsPending m.ring m.rows pending → AllByRecursion (λ (x : ℕ × ℕ). HasDegreeUpTo m d x.0 x.1 → ⊥) pending
    → (c : Vector) → IsCoefficients m c → c.degree ≤ℤ d → HasDividedLead m.rows (row_combination m.ring m.rows c.terms)
IsPending-up_to m is_matrix monic positive d pending waits greater =
    buchberger_up_to m is_matrix monic positive d
    (λ i j earlier later positions bound.
    ⊎_elim
    (λ (item : IsWaiting i j pending). absurd (AllByRecursion-item (λ (x : ℕ × ℕ). HasDegreeUpTo m d x.0 x.1 → ⊥) pending (i, j) greater item bound))
    (λ (r : ReducesToZero m.ring m.rows i j). r)
    (waits i j (record { earlier = earlier; later = later; positions = positions })))
