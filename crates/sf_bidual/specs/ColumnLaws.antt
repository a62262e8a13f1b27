-- What holds of the columns of a Cartan-Eilenberg resolution. (Weibel, "An Introduction to Homological Algebra", 5.7.1 and
-- 5.7.2.)
use Rattle.std.specs.Prelude.{◌↔◌, ℕ, suc}
use Rattle.sf_algebra.specs.Matrices.{Matrix, row_degrees}
use Rattle.sf_algebra.specs.MatrixOperations.{matrix_product}
use Rattle.sf_algebra.specs.Rings.{Ring, IsOverField}
use Rattle.sf_algebra.specs.Vectors.{Vector, IsVector}
use Rattle.sf_groebner.specs.Spans.{InSpan, IsSyzygy}
use Rattle.sf_presented.specs.Presented.{IsPresentedBy}
use Rattle.sf_blocks.specs.MatrixSums.{IsZeroMatrix}
use Rattle.sf_homotopy.specs.Exactness.{IsExactPair}
use Rattle.sf_bidual.specs.CartanEilenberg.{CartanEilenberg, IsCartanEilenberg, IsCochainComplex, arriving, column_steps, cycle_steps}

-- map 0 spans N, and each further map the syzygies of the one before
pub record Resolves (N : Vector → Type 0) (steps : ℕ → Matrix) : Type 0 where
  pub onto : (v : Vector) → InSpan (steps 0) v ↔ N v
  pub exact : (j : ℕ) → IsExactPair (steps j) (steps (suc j))

-- the first block resolves the boundaries
abbrev pub ResolvesBoundaries : Type 0
ResolvesBoundaries =
    (ring : Ring) (maps : ℕ → Matrix) (x : CartanEilenberg) → IsOverField ring → IsCochainComplex ring maps
    → IsCartanEilenberg ring maps x → (i : ℕ) → Resolves (InSpan (arriving ring maps i)) (x.boundaries i)

-- the first two resolve the cycles
abbrev pub ResolvesCycles : Type 0
ResolvesCycles =
    (ring : Ring) (maps : ℕ → Matrix) (x : CartanEilenberg) → IsOverField ring → IsCochainComplex ring maps
    → IsCartanEilenberg ring maps x → (i : ℕ) → Resolves (IsSyzygy (maps i)) (cycle_steps x i)

-- the second, the quotient of these two, resolves the homology: the cycles modulo the boundaries
abbrev pub ResolvesHomology : Type 0
ResolvesHomology =
    (ring : Ring) (maps : ℕ → Matrix) (x : CartanEilenberg) → IsOverField ring → IsCochainComplex ring maps
    → IsCartanEilenberg ring maps x → (i : ℕ)
    → IsPresentedBy (IsSyzygy (maps i)) (InSpan (arriving ring maps i)) (x.homology i 0) (x.homology i 1)
    × ((j : ℕ) → IsExactPair (x.homology i (suc j)) (x.homology i (suc (suc j))))

-- all three resolve the free module of the complex
abbrev pub ResolvesTerms : Type 0
ResolvesTerms =
    (ring : Ring) (maps : ℕ → Matrix) (x : CartanEilenberg) → IsOverField ring → IsCochainComplex ring maps
    → IsCartanEilenberg ring maps x → (i : ℕ) → Resolves (IsVector ring (row_degrees (maps i))) (column_steps x i)

-- so the differentials of a column, one after the other, and the augmentation after the first, give 0
abbrev pub HasZeroColumnSquares : Type 0
HasZeroColumnSquares =
    (ring : Ring) (maps : ℕ → Matrix) (x : CartanEilenberg) → IsOverField ring → IsCochainComplex ring maps
    → IsCartanEilenberg ring maps x → (i j : ℕ)
    → IsZeroMatrix (matrix_product (column_steps x i (suc j)) (column_steps x i j))
