-- Over n variables no resolution in a Cartan-Eilenberg resolution has a step past n, so each presented module has its bidual
-- bicomplex and its purity filtration. (Hilbert's syzygy theorem; Barakat, "Spectral Filtrations via Generalized Morphisms".)
use Rattle.std.specs.Prelude.{◌≡◌, ℕ, ◌≤◌}
use Rattle.sf_algebra.specs.Matrices.{Matrix, IsMatrix}
use Rattle.sf_algebra.specs.Monomials.{VARIABLES}
use Rattle.sf_algebra.specs.Rings.{Ring, IsOverField}
use Rattle.sf_variables.specs.Variables.{IsMatrixInVariables}
use Rattle.sf_bidual.specs.Bidual.{HasNoStepPast, IsBidualOf}
use Rattle.sf_bidual.specs.CartanEilenberg.{CartanEilenberg, IsCartanEilenberg, IsCochainComplex}
use Rattle.sf_bidual.specs.Purity.{IsPurityPart, IsPuritySubmodule}

-- of a complex over n variables no resolution of boundaries or homology has a step past n
abbrev pub EndsAfterVariables : Type 0
EndsAfterVariables =
    (n : ℕ) → 1 ≤ n → n ≤ VARIABLES → (ring : Ring) (maps : ℕ → Matrix) (x : CartanEilenberg) → IsOverField ring
    → IsCochainComplex ring maps → ((i : ℕ) → IsMatrixInVariables n (maps i)) → IsCartanEilenberg ring maps x
    → HasNoStepPast n x

-- so a module over n variables has a bidual bicomplex of n + 1 columns
abbrev pub HasBidualOfVariables : Type 0
HasBidualOfVariables =
    (n : ℕ) → 1 ≤ n → n ≤ VARIABLES → (relations : Matrix) → IsOverField relations.ring → IsMatrix relations
    → IsMatrixInVariables n relations → (steps : ℕ → Matrix) × (x : CartanEilenberg) × IsBidualOf relations n steps x

-- and its purity filtration: there are submodules and parts
abbrev pub HasPurityFiltration : Type 0
HasPurityFiltration =
    (n : ℕ) → 1 ≤ n → n ≤ VARIABLES → (relations : Matrix) → IsOverField relations.ring → IsMatrix relations
    → IsMatrixInVariables n relations
    → (steps : ℕ → Matrix) × (x : CartanEilenberg) × IsBidualOf relations n steps x
    × ((k : ℕ) → (g : Matrix) × (r : Matrix) × IsPuritySubmodule relations n x k g r)
    × ((p : ℕ) → (g : Matrix) × (r : Matrix) × IsPurityPart relations n x p g r)

-- these are one, whatever resolutions they are made of
abbrev pub HasOnePurityFiltration : Type 0
HasOnePurityFiltration =
    (n : ℕ) (relations : Matrix) → IsOverField relations.ring → IsMatrix relations → (steps others : ℕ → Matrix)
    (x y : CartanEilenberg) → IsBidualOf relations n steps x → IsBidualOf relations n others y → (g r h s : Matrix)
    → ((k : ℕ) → IsPuritySubmodule relations n x k g r → IsPuritySubmodule relations n y k h s → (g ≡ h) × (r ≡ s))
    × ((p : ℕ) → IsPurityPart relations n x p g r → IsPurityPart relations n y p h s → (g ≡ h) × (r ≡ s))
