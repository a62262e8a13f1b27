-- A module that has no maps to the ring but 0, where the cycles of its dual complex at place 1 are a free module: the first
-- dual map is some matrix times a basis of them, and the transpose of that matrix spans what stands below the two highest
-- columns. So of one generator with the relations f g1, .., f gr, where g1, .., gr have no common factor, it is spanned by f.
-- (Barakat, "Spectral Filtrations via Generalized Morphisms", has the filtration; the law is this project's own.)
use Rattle.std.specs.Prelude.{◌≡◌, ◌↔◌, ℕ, suc, List, []}
use Rattle.sf_algebra.specs.Matrices.{IsMatrix, Matrix, degrees_of, row_degrees}
use Rattle.sf_algebra.specs.MatrixOperations.{matrix_product, transposed}
use Rattle.sf_algebra.specs.Rings.{IsOverField, Ring}
use Rattle.sf_algebra.specs.Vectors.{Vector}
use Rattle.sf_groebner.specs.MinimalGenerators.{matrix_of}
use Rattle.sf_groebner.specs.Spans.{InSpan, IsSyzygy}
use Rattle.sf_bidual.specs.Bidual.{IsBidualOf, dual_maps}
use Rattle.sf_bidual.specs.CartanEilenberg.{CartanEilenberg}
use Rattle.sf_bidual.specs.Purity.{IsOfPurity}
use Rattle.sf_bidual.specs.TorsionLaws.{HasNoMapsToRing}

-- g is a basis of the cycles Z(1) of these maps: it spans them, and has no syzygies but 0
pub record IsBasisOfCycles (ring : Ring) (maps : ℕ → Matrix) (g : List Vector) : Type 0 where
  pub matrix : IsMatrix (matrix_of ring (row_degrees (maps 1)) g)
  pub spans : (v : Vector) → IsSyzygy (maps 1) v ↔ InSpan (matrix_of ring (row_degrees (maps 1)) g) v
  pub free : (v : Vector) → IsSyzygy (matrix_of ring (row_degrees (maps 1)) g) v → v.terms ≡ []

-- the rows xs, times such a basis, are the first map
pub record IsFactorOfFirst (ring : Ring) (maps : ℕ → Matrix) (g xs : List Vector) : Type 0 where
  pub basis : IsBasisOfCycles ring maps g
  pub matrix : IsMatrix (matrix_of ring (degrees_of g) xs)
  pub product : matrix_product (matrix_of ring (degrees_of g) xs) (matrix_of ring (row_degrees (maps 1)) g) ≡ maps 0

-- with p + 2 columns, what stands in the p lowest ones is the span of its transpose
abbrev pub HasFactoredPart : Type 0
HasFactoredPart =
    (relations : Matrix) (p : ℕ) (steps : ℕ → Matrix) (x : CartanEilenberg) → IsOverField relations.ring
    → IsMatrix relations → IsBidualOf relations (suc p) steps x → HasNoMapsToRing x → (g xs : List Vector)
    → IsFactorOfFirst relations.ring (dual_maps steps) g xs → (m : Vector)
    → IsOfPurity relations.ring (suc p) x p m ↔ InSpan (transposed (matrix_of relations.ring (degrees_of g) xs)) m
