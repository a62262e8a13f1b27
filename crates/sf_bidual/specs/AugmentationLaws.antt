-- What holds of the augmentation e of a bidual bicomplex: the total complex has the module as its homology in degree n, and
-- no other one. (Barakat, "Spectral Filtrations via Generalized Morphisms"; Weibel, "An Introduction to Homological
-- Algebra", 5.7.)
use Rattle.std.specs.Prelude.{◌≡◌, ◌↔◌, ℕ, ℤ, pos, ◌+ℤ◌, ◌-ℤ◌}
use Rattle.sf_algebra.specs.Matrices.{Matrix, IsMatrix}
use Rattle.sf_algebra.specs.Rings.{IsOverField}
use Rattle.sf_algebra.specs.Vectors.{Vector, IsVector}
use Rattle.sf_groebner.specs.Homology.{IsCycle}
use Rattle.sf_groebner.specs.MinimalGenerators.{IsInSum}
use Rattle.sf_groebner.specs.Spans.{InSpan, combined}
use Rattle.sf_bicomplex.specs.Bicomplexes.{Bicomplex}
use Rattle.sf_bicomplex.specs.InducedFiltrations.{IsTotalBoundary}
use Rattle.sf_bicomplex.specs.TotalColumns.{total_map, total_module}
use Rattle.sf_bidual.specs.Bidual.{IsBidualOf, bidual, bidual_augmentation}
use Rattle.sf_bidual.specs.CartanEilenberg.{CartanEilenberg}

-- cycles and boundaries of the total complex in degree k
abbrev pub IsCycleAt : Bicomplex → ℤ → Vector → Type 0
IsCycleAt b k = IsCycle (total_map b k (k -ℤ pos 1)) (total_module b (k -ℤ pos 1))

abbrev pub IsBoundaryAt : Bicomplex → ℤ → Vector → Type 0
IsBoundaryAt b k = IsTotalBoundary b (k +ℤ pos 1) k

-- m e is a cycle for every m
abbrev pub HasCyclesOfVectors : Type 0
HasCyclesOfVectors =
    (relations : Matrix) (n : ℕ) (steps : ℕ → Matrix) (x : CartanEilenberg) → IsOverField relations.ring
    → IsMatrix relations → IsBidualOf relations n steps x → (m : Vector) → IsVector relations.ring relations.target m
    → IsCycleAt (bidual relations.ring n x) (pos n) (combined (bidual_augmentation relations.ring n x) m)

-- it is a boundary exactly where m is a relation
abbrev pub HasBoundariesOfRelations : Type 0
HasBoundariesOfRelations =
    (relations : Matrix) (n : ℕ) (steps : ℕ → Matrix) (x : CartanEilenberg) → IsOverField relations.ring
    → IsMatrix relations → IsBidualOf relations n steps x → (m : Vector) → IsVector relations.ring relations.target m
    → IsBoundaryAt (bidual relations.ring n x) (pos n) (combined (bidual_augmentation relations.ring n x) m)
    ↔ InSpan relations m

-- each cycle is some m e plus a boundary
abbrev pub HasAllCycles : Type 0
HasAllCycles =
    (relations : Matrix) (n : ℕ) (steps : ℕ → Matrix) (x : CartanEilenberg) → IsOverField relations.ring
    → IsMatrix relations → IsBidualOf relations n steps x → (v : Vector)
    → IsCycleAt (bidual relations.ring n x) (pos n) v
    → IsInSum relations.ring (bidual_augmentation relations.ring n x).rows
    (IsBoundaryAt (bidual relations.ring n x) (pos n)) v

-- in other degrees each cycle is a boundary
abbrev pub HasNoOtherHomology : Type 0
HasNoOtherHomology =
    (relations : Matrix) (n : ℕ) (steps : ℕ → Matrix) (x : CartanEilenberg) → IsOverField relations.ring
    → IsMatrix relations → IsBidualOf relations n steps x → (k : ℤ) → (k ≡ pos n → ⊥) → (v : Vector)
    → IsCycleAt (bidual relations.ring n x) k v → IsBoundaryAt (bidual relations.ring n x) k v
