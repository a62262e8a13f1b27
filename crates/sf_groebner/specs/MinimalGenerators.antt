-- Minimal generators of a module N modulo a module B. (Textbook; the choice of the generators is this project's own.)
use Rattle.std.specs.Prelude.{◌≡◌, ◌⊎◌, List, [], ◌∷◌, ◌++◌, ℤ}
use Rattle.sf_algebra.specs.Matrices.{Matrix}
use Rattle.sf_algebra.specs.Rings.{Ring}
use Rattle.sf_algebra.specs.VectorOperations.{row_sum}
use Rattle.sf_algebra.specs.Vectors.{Vector}
use Rattle.sf_groebner.specs.ReducedBases.{IsReducedBasis}
use Rattle.sf_groebner.specs.Spans.{IsSpannedBy}

-- v is the sum of a vector of B and one of the span of these rows, all of one degree
pub record IsInSum (ring : Ring) (rows : List Vector) (B : Vector → Type 0) (v : Vector) : Type 0 where
  pub first : Vector
  pub second : Vector
  pub in_module : B first
  pub in_span : IsSpannedBy ring rows second
  pub first_degree : first.degree ≡ v.degree
  pub second_degree : second.degree ≡ v.degree
  pub sum : row_sum ring first.terms second.terms ≡ v.terms

-- the matrix with these rows over a free module
abbrev pub matrix_of : Ring → List ℤ → List Vector → Matrix
matrix_of ring target rows = record { ring = ring; target = target; rows = rows }

-- kept are those of the vectors, in order, that aren't in B plus the span of the earlier vectors
abbrev pub AreKept : Ring → (Vector → Type 0) → List Vector → List Vector → List Vector → Type 0
AreKept ring B earlier [] kept = kept ≡ []
AreKept ring B earlier (v ∷ vs) kept =
    (IsInSum ring earlier B v × AreKept ring B (earlier ++ v ∷ []) vs kept)
    ⊎ ((IsInSum ring earlier B v → ⊥) × ((others : List Vector) × (kept ≡ v ∷ others) × AreKept ring B (earlier ++ v ∷ []) vs others))

-- kept are those of the vectors, in order, that aren't in B plus the span of the vectors kept before
abbrev pub AreChosen : Ring → (Vector → Type 0) → List Vector → List Vector → List Vector → Type 0
AreChosen ring B before [] kept = kept ≡ []
AreChosen ring B before (v ∷ vs) kept =
    (IsInSum ring before B v × AreChosen ring B before vs kept)
    ⊎ ((IsInSum ring before B v → ⊥) × ((others : List Vector) × (kept ≡ v ∷ others) × AreChosen ring B (before ++ v ∷ []) vs others))

-- the minimal generators of N modulo B: those of its reduced basis that aren't in B plus the span of the earlier ones
pub record AreMinimal (ring : Ring) (N B : Vector → Type 0) (generators : List Vector) : Type 0 where
  pub basis : List Vector
  pub reduced : IsReducedBasis ring.weights N basis
  pub kept : AreKept ring B [] basis generators
