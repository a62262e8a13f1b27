-- Every module has its purity filtration. (Barakat, "Spectral Filtrations via Generalized Morphisms".)
use Rattle.std.specs.Prelude.{◌≡◌, ◌↔◌, ℕ, suc, ◌<◌, ◌≤◌}
use Rattle.sf_algebra.specs.Matrices.{Matrix, IsMatrix}
use Rattle.sf_algebra.specs.Rings.{IsOverField}
use Rattle.sf_algebra.specs.Vectors.{Vector, IsVector}
use Rattle.sf_groebner.specs.Spans.{InSpan}
use Rattle.sf_presented.specs.Inverses.{AreInverseModulo}
use Rattle.sf_bicomplex.specs.Descriptions.{Describes}
use Rattle.sf_bidual.specs.Bidual.{IsBidualOf}
use Rattle.sf_bidual.specs.CartanEilenberg.{CartanEilenberg}
use Rattle.sf_bidual.specs.Purity.{HasPurityColumn, IsLastPage, IsOfPurity, IsPurityPart, IsPuritySubmodule}

-- its submodules rise from the relations to the whole module
abbrev pub HasRisingPurity : Type 0
HasRisingPurity =
    (relations : Matrix) (n : ℕ) (steps : ℕ → Matrix) (x : CartanEilenberg) → IsOverField relations.ring
    → IsMatrix relations → IsBidualOf relations n steps x → (k l : ℕ) → k ≤ l → (m : Vector)
    → (IsOfPurity relations.ring n x k m → IsOfPurity relations.ring n x l m)
    × (IsOfPurity relations.ring n x 0 m ↔ InSpan relations m)
    × (IsVector relations.ring relations.target m → IsOfPurity relations.ring n x (suc n) m)

-- each has one list of generators
abbrev pub HasPuritySubmodules : Type 0
HasPuritySubmodules =
    (relations : Matrix) (n : ℕ) (steps : ℕ → Matrix) (x : CartanEilenberg) → IsOverField relations.ring
    → IsMatrix relations → IsBidualOf relations n steps x → (k : ℕ)
    → ((g : Matrix) × (r : Matrix) × IsPuritySubmodule relations n x k g r)
    × ((g r h s : Matrix) → IsPuritySubmodule relations n x k g r → IsPuritySubmodule relations n x k h s
    → (g ≡ h) × (r ≡ s))

-- each part has one presentation
abbrev pub HasPurityParts : Type 0
HasPurityParts =
    (relations : Matrix) (n : ℕ) (steps : ℕ → Matrix) (x : CartanEilenberg) → IsOverField relations.ring
    → IsMatrix relations → IsBidualOf relations n steps x → (p : ℕ)
    → ((g : Matrix) × (r : Matrix) × IsPurityPart relations n x p g r)
    × ((g r h s : Matrix) → IsPurityPart relations n x p g r → IsPurityPart relations n x p h s
    → (g ≡ h) × (r ≡ s))

-- and is the last page there, by two matrices that are inverse to one another modulo relations
abbrev pub HasInversePurityMaps : Type 0
HasInversePurityMaps =
    (relations : Matrix) (n : ℕ) (steps : ℕ → Matrix) (x : CartanEilenberg) → IsOverField relations.ring
    → IsMatrix relations → IsBidualOf relations n steps x → (p : ℕ) → p < suc n → (g r h s : Matrix)
    → IsPurityPart relations n x p g r → IsLastPage relations n x p h s
    → ((to : Matrix) × Describes (HasPurityColumn relations n x p) h s g to)
    × ((from : Matrix) × Describes (λ z m. HasPurityColumn relations n x p m z) g r h from)
    × ((to from : Matrix) → Describes (HasPurityColumn relations n x p) h s g to
    → Describes (λ z m. HasPurityColumn relations n x p m z) g r h from → AreInverseModulo r s to from)
