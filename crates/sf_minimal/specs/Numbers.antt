-- The numbers of the rows that no pivot stands for. (This project's own.)
use Rattle.std.specs.Prelude.{◌↔◌, Bool, cond, IsTrue, ℕ, zero, suc, ◌-◌, ◌<◌, List, [], ◌∷◌, ◌++◌, length, take}
use Rattle.sf_algebra.specs.Matrices.{Matrix}
use Rattle.sf_algebra.specs.Monomials.{one}
use Rattle.sf_algebra.specs.Vectors.{Place, Vector}
use Rattle.sf_groebner.specs.MinimalGenerators.{IsInSum}
use Rattle.sf_groebner.specs.ReducedBases.{is_divided}
use Rattle.sf_matrix.specs.KeptNumbers.{vector_at}

-- where the pivot for row i of n rows stands
abbrev pub pivot_place : ℕ → ℕ → Place
pivot_place n i = record { position = n - suc i; monomial = one }

-- whether there is a pivot for row i of n rows
abbrev pub has_pivot : List Vector → ℕ → ℕ → Bool
has_pivot pivots n i = is_divided pivots (pivot_place n i)

-- those of the first numbers for which there is no pivot
abbrev pub free_numbers : List Vector → ℕ → ℕ → List ℕ
free_numbers pivots n zero = []
free_numbers pivots n (suc i) = free_numbers pivots n i ++ cond (has_pivot pivots n i) [] (i ∷ [])

-- there are pivots for those rows of m that are in B plus the span of the earlier rows
abbrev pub DecideRows : Matrix → (Vector → Type 0) → List Vector → Type 0
DecideRows m B pivots = (i : ℕ) → i < length m.rows
    → IsTrue (has_pivot pivots (length m.rows) i) ↔ IsInSum m.ring (take i m.rows) B (vector_at m.rows i)
