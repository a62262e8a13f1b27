-- The total complex of a bicomplex, and its columns. In total degree n stand the modules of column p and row n - p, by
-- descending column; d = dv + dh. (Weibel, "An Introduction to Homological Algebra", sections 1.2 and 5.6.)
use Rattle.std.specs.Prelude.{ℕ, zero, suc, ◌-◌, ◌≤◌, List, [], ◌∷◌, length, ℤ, pos, ◌-ℤ◌}
use Rattle.std.specs.List.{AllByRecursion}
use Rattle.sf_algebra.specs.Matrices.{Matrix}
use Rattle.sf_algebra.specs.MatrixOperations.{vector_part}
use Rattle.sf_algebra.specs.Vectors.{Vector, IsVector}
use Rattle.sf_groebner.specs.MinimalGenerators.{matrix_of}
use Rattle.sf_blocks.specs.TotalDifferentials.{Spot, total_differential}
use Rattle.sf_blocks.specs.TotalRelations.{total_relations}
use Rattle.sf_bicomplex.specs.Bicomplexes.{Bicomplex}

-- the relations of the module in column p of total degree n
abbrev pub place : Bicomplex → ℤ → ℕ → Matrix
place b n p = b.relations p (n -ℤ pos p)

-- the modules in the k lowest columns of total degree n, and the maps from them
abbrev pub places : Bicomplex → ℤ → ℕ → List Matrix
places b n zero = []
places b n (suc k) = place b n k ∷ places b n k

abbrev pub spots : Bicomplex → ℤ → ℕ → List Spot
spots b n zero = []
spots b n (suc k) =
    record { vertical = b.vertical k (n -ℤ pos k); horizontal = b.horizontal k (n -ℤ pos k) } ∷ spots b n k

-- the degrees of the generators in the k lowest columns
abbrev pub lowest_degrees : Bicomplex → ℤ → ℕ → List ℤ
lowest_degrees b n k = (total_relations b.ring (places b n k)).target

-- the total complex in degree n: generators, relations, and the map to the total complex in the degree m, one lower
abbrev pub total_degrees : Bicomplex → ℤ → List ℤ
total_degrees b n = lowest_degrees b n b.columns

abbrev pub total_module : Bicomplex → ℤ → Matrix
total_module b n = total_relations b.ring (places b n b.columns)

abbrev pub total_map : Bicomplex → ℤ → ℤ → Matrix
total_map b n m = matrix_of b.ring (total_degrees b m) (total_differential b.ring (spots b n b.columns)).rows

-- the position from which on the k lowest columns stand
abbrev pub column_start : Bicomplex → ℤ → ℕ → ℕ
column_start b n k = length (total_degrees b n) - length (lowest_degrees b n k)

-- v is a vector of the total complex that stands in the k lowest columns
pub record StandsBelow (b : Bicomplex) (n : ℤ) (k : ℕ) (v : Vector) : Type 0 where
  pub vector : IsVector b.ring (total_degrees b n) v
  pub below : AllByRecursion (λ t. column_start b n k ≤ t.at.position) v.terms

-- the column p of a vector of the total complex
abbrev pub column_part : Bicomplex → ℤ → ℕ → Vector → Vector
column_part b n p v = vector_part (column_start b n (suc p)) (column_start b n p) v
