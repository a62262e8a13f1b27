-- What shows, before a reduced basis is known, that a matrix is large for a limit. (This project's own.)
use Rattle.std.specs.Prelude.{◌⊎◌, ℕ, ◌≤◌, ◌<◌, List, ◌∷◌, length, ℤ, IsFalse}
use Rattle.std.specs.List.{AllByRecursion}
use Rattle.sf_algebra.specs.Bounds.{GREATEST_SIZE, HasSmallSize}
use Rattle.sf_algebra.specs.Matrices.{Matrix, IsMatrix}
use Rattle.sf_algebra.specs.Monomials.{monomial_degree}
use Rattle.sf_algebra.specs.Rings.{IsRing, IsOverField}
use Rattle.sf_algebra.specs.Terms.{Term}
use Rattle.sf_algebra.specs.Vectors.{Place, Vector}
use Rattle.sf_groebner.specs.NeededLeads.{AreDistinct, IsCompleteBelow, IsNeededForGraph}
use Rattle.sf_groebner.specs.ReducedBases.{IsGraphBasis, is_divided}
use Rattle.sf_groebner.specs.Small.{IsLarge}
use Rattle.sf_groebner.specs.Spans.{IsGraphVector}

-- where rows are complete below degree d, a lead of degree d that none of theirs divides is needed
abbrev pub NeedsNewLeads : Type 0
NeedsNewLeads =
    (m : Matrix) → IsRing m.ring → (rows : List Vector) (d : ℤ) → IsCompleteBelow (IsGraphVector m) rows d → (t : Term Place) (ts : List (Term Place))
    → IsGraphVector m (record { degree = d; terms = t ∷ ts })
    → IsFalse (is_divided rows t.at) → IsNeededForGraph m t.at

-- needed leads are no more than the elements of the reduced basis
abbrev pub HasNoMoreNeededLeads : Type 0
HasNoMoreNeededLeads =
    (m : Matrix) (ks : List Place) → AreDistinct ks → AllByRecursion (IsNeededForGraph m) ks → (basis : List Vector) → IsGraphBasis m basis
    → length ks ≤ length basis

-- a matrix with a needed lead above the limit is large
abbrev pub IsLargeAboveLimit : Type 0
IsLargeAboveLimit =
    (limit : ℕ) (m : Matrix) (k : Place) → IsNeededForGraph m k → limit < monomial_degree m.ring.weights k.monomial
    → IsLarge limit m

-- so is one with more needed leads than a small one has elements
abbrev pub IsLargeBeyondSize : Type 0
IsLargeBeyondSize =
    (limit : ℕ) (m : Matrix) (ks : List Place) → AreDistinct ks → AllByRecursion (IsNeededForGraph m) ks
    → GREATEST_SIZE < length ks → IsLarge limit m

-- over a field, a large matrix of a small size has the one or the other
abbrev pub HasReasonToBeLarge : Type 0
HasReasonToBeLarge =
    (limit : ℕ) (m : Matrix) → IsOverField m.ring → IsMatrix m → HasSmallSize m → IsLarge limit m
    → ((k : Place) × IsNeededForGraph m k × (limit < monomial_degree m.ring.weights k.monomial))
    ⊎ ((ks : List Place) × AreDistinct ks × AllByRecursion (IsNeededForGraph m) ks × (GREATEST_SIZE < length ks))
