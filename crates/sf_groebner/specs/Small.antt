-- The matrices for which bases are computed. (The bounds are this project's own.)
use Rattle.std.specs.Prelude.{ℕ, ◌≤◌, List, [], ◌∷◌, length, Option, Some, None}
use Rattle.std.specs.List.{AllByRecursion}
use Rattle.sf_algebra.specs.Bounds.{GREATEST_SIZE, HasSmallSize}
use Rattle.sf_algebra.specs.Matrices.{Matrix}
use Rattle.sf_algebra.specs.Monomials.{monomial_degree}
use Rattle.sf_algebra.specs.Rings.{Weights}
use Rattle.sf_algebra.specs.Terms.{Term}
use Rattle.sf_algebra.specs.Vectors.{Place, Vector}
use Rattle.sf_groebner.specs.ReducedBases.{IsSpanBasis, IsGraphBasis}

-- the monomial of the lead of a list, where there is one, has at most this degree
abbrev pub HasLeadUpTo : Weights → ℕ → List (Term Place) → Type 0
HasLeadUpTo weights limit [] = Unit {0}
HasLeadUpTo weights limit (t ∷ ts) = monomial_degree weights t.at.monomial ≤ limit

-- a basis has at most so many elements, and leads whose monomials have at most this degree
pub record IsWithinLimit (weights : Weights) (limit : ℕ) (basis : List Vector) : Type 0 where
  pub few : length basis ≤ GREATEST_SIZE
  pub low : AllByRecursion (λ (v : Vector). HasLeadUpTo weights limit v.terms) basis

-- m is small for a limit, by the reduced basis of its graph
pub record IsSmall (limit : ℕ) (m : Matrix) (basis : List Vector) : Type 0 where
  pub size : HasSmallSize m
  pub reduced : IsGraphBasis m basis
  pub within : IsWithinLimit m.ring.weights limit basis

-- m is small for no basis
abbrev pub IsLarge : ℕ → Matrix → Type 0
IsLarge limit m = (basis : List Vector) → IsSmall limit m basis → ⊥

-- the answer for a limit: the reduced basis of the graph where m is small, and none where it is large
abbrev pub IsAnswer : ℕ → Matrix → Option (List Vector) → Type 0
IsAnswer limit m (Some basis) = IsSmall limit m basis
IsAnswer limit m None = IsLarge limit m

-- a matrix whose rows are the reduced basis of their own span and within the limit
pub record IsSmallReducedBasis (limit : ℕ) (m : Matrix) : Type 0 where
  pub reduced : IsSpanBasis m m.rows
  pub columns : length m.target ≤ GREATEST_SIZE
  pub within : IsWithinLimit m.ring.weights limit m.rows
