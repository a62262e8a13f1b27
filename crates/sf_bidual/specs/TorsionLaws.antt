-- The highest column of the purity filtration, column 0 by codimension: a module that has no maps to the ring but 0 has
-- nothing there. (Barakat, "Spectral Filtrations via Generalized Morphisms": the module of this column is torsion-free.)
use Rattle.std.specs.Prelude.{◌≡◌, ℕ, []}
use Rattle.sf_algebra.specs.Matrices.{Matrix, IsMatrix}
use Rattle.sf_algebra.specs.Rings.{IsOverField}
use Rattle.sf_algebra.specs.Vectors.{Vector, IsVector}
use Rattle.sf_groebner.specs.MinimalGenerators.{matrix_of}
use Rattle.sf_bidual.specs.Bidual.{IsBidualOf}
use Rattle.sf_bidual.specs.CartanEilenberg.{CartanEilenberg}
use Rattle.sf_bidual.specs.Purity.{IsOfPurity, IsPurityPart}

-- H(0), the maps of the module to the ring, has no generators
abbrev pub HasNoMapsToRing : CartanEilenberg → Type 0
HasNoMapsToRing x = (x.homology 0 0).rows ≡ []

-- then all vectors are in the n lowest columns
abbrev pub HasTorsionInLowerColumns : Type 0
HasTorsionInLowerColumns =
    (relations : Matrix) (n : ℕ) (steps : ℕ → Matrix) (x : CartanEilenberg) → IsOverField relations.ring
    → IsMatrix relations → IsBidualOf relations n steps x → HasNoMapsToRing x → (m : Vector)
    → IsVector relations.ring relations.target m → IsOfPurity relations.ring n x n m

-- and the part of column n is nothing
abbrev pub HasNoHighestPart : Type 0
HasNoHighestPart =
    (relations : Matrix) (n : ℕ) (steps : ℕ → Matrix) (x : CartanEilenberg) → IsOverField relations.ring
    → IsMatrix relations → IsBidualOf relations n steps x → HasNoMapsToRing x
    → IsPurityPart relations n x n (matrix_of relations.ring relations.target []) (matrix_of relations.ring [] [])
