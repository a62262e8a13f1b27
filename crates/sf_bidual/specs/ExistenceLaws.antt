-- Cartan-Eilenberg resolutions exist and are one. (Weibel, "An Introduction to Homological Algebra", 5.7.2.)
use Rattle.std.specs.Prelude.{◌≡◌, ℕ}
use Rattle.sf_algebra.specs.Matrices.{Matrix, IsMatrix}
use Rattle.sf_algebra.specs.Rings.{Ring, IsOverField}
use Rattle.sf_bidual.specs.Bidual.{HasNoStepPast, IsBidualOf}
use Rattle.sf_bidual.specs.CartanEilenberg.{CartanEilenberg, IsCartanEilenberg, IsCochainComplex}

-- a complex of free modules has one
abbrev pub HasCartanEilenberg : Type 0
HasCartanEilenberg =
    (ring : Ring) (maps : ℕ → Matrix) → IsOverField ring → IsCochainComplex ring maps
    → (x : CartanEilenberg) × IsCartanEilenberg ring maps x

-- and only one: the matrices at each place are determined
abbrev pub HasOneCartanEilenberg : Type 0
HasOneCartanEilenberg =
    (ring : Ring) (maps : ℕ → Matrix) (x y : CartanEilenberg) → IsOverField ring → IsCochainComplex ring maps
    → IsCartanEilenberg ring maps x → IsCartanEilenberg ring maps y → (i j : ℕ)
    → (x.boundaries i j ≡ y.boundaries i j) × (x.homology i j ≡ y.homology i j)
    × (x.inner i j ≡ y.inner i j) × (x.outer i j ≡ y.outer i j)

-- so a presented module has a resolution, and one of Hom of it into the ring, with which it has a bidual bicomplex for each
-- n past which none of these has a step
abbrev pub HasBidual : Type 0
HasBidual =
    (relations : Matrix) → IsOverField relations.ring → IsMatrix relations
    → (steps : ℕ → Matrix) × (x : CartanEilenberg)
    × ((n : ℕ) → HasNoStepPast n x → IsBidualOf relations n steps x)
