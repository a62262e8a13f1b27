-- Hilbert's syzygy theorem: a canonical resolution over n variables has no step past n. (Cox, Little, O'Shea, "Using
-- Algebraic Geometry", chapter 6, section 2.)
use Rattle.std.specs.Prelude.{◌≡◌, ◌≢◌, ℕ, ◌≤◌, List, [], drop}
use Rattle.std.specs.List.{AllByRecursion}
use Rattle.sf_algebra.specs.Matrices.{Matrix, IsMatrix}
use Rattle.sf_algebra.specs.Monomials.{VARIABLES, one}
use Rattle.sf_algebra.specs.Rings.{IsOverField}
use Rattle.sf_algebra.specs.Terms.{Term}
use Rattle.sf_algebra.specs.Vectors.{Place, Vector}
use Rattle.sf_groebner.specs.Homology.{ComplexPlace, IsHomology}
use Rattle.sf_groebner.specs.Resolutions.{IsResolution}
use Rattle.sf_variables.specs.Variables.{IsMatrixInVariables}
use Rattle.sf_hilbert.specs.Exactness.{AreAllExact, is_free_of}

-- no term of any row of a matrix is a constant
abbrev pub HasNoConstants : Matrix → Type 0
HasNoConstants m =
    AllByRecursion (λ (v : Vector). AllByRecursion (λ (t : Term Place). t.at.monomial ≢ one) v.terms) m.rows

-- the steps past the first n of a resolution over n variables have no rows
abbrev pub EndsAfterVariables : Type 0
EndsAfterVariables =
    (n : ℕ) → 1 ≤ n → n ≤ VARIABLES → (relations : Matrix) → IsOverField relations.ring → IsMatrix relations
    → IsMatrixInVariables n relations → (steps : List Matrix) → IsResolution relations steps
    → AllByRecursion (λ (step : Matrix). step.rows ≡ []) (drop n steps)

-- the steps of a resolution from the second on have no constants
abbrev pub HasNoConstantsFromSecond : Type 0
HasNoConstantsFromSecond =
    (relations : Matrix) → IsOverField relations.ring → IsMatrix relations → (steps : List Matrix)
    → IsResolution relations steps → AllByRecursion HasNoConstants (drop 1 steps)

-- a resolution is exact modulo its first n variables from step n + 1 on
abbrev pub IsExactModuloVariables : Type 0
IsExactModuloVariables =
    (n : ℕ) → n ≤ VARIABLES → (relations : Matrix) → IsOverField relations.ring → IsMatrix relations
    → (steps : List Matrix) → IsResolution relations steps
    → AreAllExact relations.ring (is_free_of n) (drop n steps)

-- where the map that leaves has no rows, there is no homology: so Ext and Tor vanish past the variables
abbrev pub HasNoHomologyWithoutRows : Type 0
HasNoHomologyWithoutRows =
    (place : ComplexPlace) → place.out.rows ≡ [] → (g r : Matrix) → IsHomology place g r
    → (g.rows ≡ []) × (r.rows ≡ [])
