-- What holds of total complexes and their columns. (Weibel, "An Introduction to Homological Algebra", sections 1.2 and
-- 5.6.)
use Rattle.std.specs.Prelude.{◌≡◌, ◌↔◌, ℕ, suc, ◌<◌, [], ℤ, pos, ◌-ℤ◌}
use Rattle.sf_algebra.specs.MatrixOperations.{matrix_product}
use Rattle.sf_algebra.specs.VectorOperations.{vector_sum}
use Rattle.sf_algebra.specs.Vectors.{Vector, IsVector}
use Rattle.sf_groebner.specs.Presentations.{IsModuleMap}
use Rattle.sf_groebner.specs.Spans.{InSpan, combined, combined_rows}
use Rattle.sf_blocks.specs.DirectSums.{IsZeroModulo}
use Rattle.sf_blocks.specs.TotalDifferentials.{total_differential}
use Rattle.sf_bicomplex.specs.Bicomplexes.{Bicomplex, IsBicomplex}
use Rattle.sf_bicomplex.specs.TotalColumns.{StandsBelow, column_part, place, spots, total_map, total_module}

-- a map of the total complex is the total differential of the maps of that degree, and a map of presented modules
abbrev pub HasTotalMaps : Type 0
HasTotalMaps =
    (b : Bicomplex) → IsBicomplex b → (n m : ℤ) → m ≡ n -ℤ pos 1
    → (total_map b n m ≡ total_differential b.ring (spots b n b.columns))
    × IsModuleMap (total_module b n) (total_module b m) (total_map b n m)

-- two of them, one after the other, are zero modulo relations
abbrev pub HasZeroSquares : Type 0
HasZeroSquares =
    (b : Bicomplex) → IsBicomplex b → (n m l : ℤ) → m ≡ n -ℤ pos 1 → l ≡ m -ℤ pos 1
    → IsZeroModulo (total_module b l) (matrix_product (total_map b n m) (total_map b m l))

-- they raise no column
abbrev pub KeepsColumns : Type 0
KeepsColumns =
    (b : Bicomplex) → IsBicomplex b → (n m : ℤ) → m ≡ n -ℤ pos 1 → (k : ℕ) (v : Vector) → StandsBelow b n k v
    → StandsBelow b m k (combined (total_map b n m) v)

-- a column of a vector is one of the module there; those of a relation are relations
abbrev pub HasColumnsInPlaces : Type 0
HasColumnsInPlaces =
    (b : Bicomplex) → IsBicomplex b → (n : ℤ) (p : ℕ) → p < b.columns → (v : Vector)
    → (StandsBelow b n b.columns v → IsVector b.ring (place b n p).target (column_part b n p v))
    × (InSpan (total_module b n) v → InSpan (place b n p) (column_part b n p v))

-- a vector that stands up to column p stands below it exactly where its column p is 0
abbrev pub HasHighestColumns : Type 0
HasHighestColumns =
    (b : Bicomplex) → IsBicomplex b → (n : ℤ) (p : ℕ) (v : Vector) → StandsBelow b n (suc p) v
    → ((column_part b n p v).terms ≡ []) ↔ StandsBelow b n p v

-- the column p of an image is dv of that column and dh of the next higher one
abbrev pub HasColumnsOfImages : Type 0
HasColumnsOfImages =
    (b : Bicomplex) → IsBicomplex b → (n m : ℤ) → m ≡ n -ℤ pos 1 → (p : ℕ) → p < b.columns → (v : Vector)
    → StandsBelow b n b.columns v
    → column_part b m p (combined (total_map b n m) v)
    ≡ vector_sum b.ring (combined_rows b.ring (b.vertical p (n -ℤ pos p)).rows (column_part b n p v))
    (combined_rows b.ring (b.horizontal (suc p) (n -ℤ pos (suc p))).rows (column_part b n (suc p) v))
