-- A table of matrices that were looked at. (Cox, Little, O'Shea, "Using Algebraic Geometry", chapter 5, section 3, for the
-- graph; the table is this project's own.)
use Rattle.std.specs.Prelude.{◌≡◌, ℕ, List, [], ◌∷◌, ◌++◌, length, map, Bool, true, false, not, if◌then◌else◌, Option, Some, None, option_and_then, slice_get, IsTrue, ℤ, pos, Result, Ok, Err}
use Rattle.std.specs.List.{AllByRecursion, list_any}
use Rattle.std.specs.Option.{option_map}
use Rattle.sf_algebra.specs.Matrices.{Matrix, row_degrees}
use Rattle.sf_algebra.specs.Vectors.{Vector}
use Rattle.sf_algebra.proofs.GradedMatrices.Equality.{same_matrix}
use Rattle.sf_groebner.specs.BasisParts.{values_of, coefficients_of, syzygies_of}
use Rattle.sf_groebner.specs.MinimalGenerators.{matrix_of}
use Rattle.sf_groebner.specs.Small.{IsSmall, IsLarge}
use Rattle.sf_matrix.specs.declared.basis.BaseFault.TheVariants.{Memory, Large}
use Rattle.sf_matrix.specs.declared.basis.BaseFault.{BaseFault}
use Rattle.sf_matrix.specs.declared.basis.Graph.{Graph}

-- what the reduced basis of the graph of m gives: the values, the coefficients beside them, and the syzygies
abbrev pub graph_of : Matrix → List Vector → Graph
graph_of m elements = record {
  basis = matrix_of m.ring m.target (values_of m elements);
  coefficients = matrix_of m.ring (row_degrees m) (coefficients_of m elements);
  syzygies = matrix_of m.ring (row_degrees m) (syzygies_of m elements);
}

-- a matrix, and what a look at it found: what its graph's basis gives, or none where it is large
pub record Entry : Type 0 where
  pub matrix : Matrix
  pub found : Option Graph

abbrev pub IsFound : ℕ → Matrix → Option Graph → Type 0
IsFound limit m None = IsLarge limit m
IsFound limit m (Some graph) = (elements : List Vector) × IsSmall limit m elements × (graph ≡ graph_of m elements)

-- the entries in the order in which they were made, and the limit for which they hold
pub record Table : Type 0 where
  pub limit : ℕ
  pub entries : List Entry

abbrev pub matrices_of : List Entry → List Matrix
matrices_of entries = map (λ (e : Entry). e.matrix) entries

-- a matrix is among these
abbrev pub is_among : Matrix → List Matrix → Bool
is_among m ms = list_any (same_matrix m) ms

-- no matrix stands among those behind it
abbrev pub AreDistinct : List Matrix → Type 0
AreDistinct [] = Unit {0}
AreDistinct (m ∷ ms) = IsTrue (not (is_among m ms)) × AreDistinct ms

-- each entry holds for the limit, and no matrix has two
pub record IsTable (t : Table) : Type 0 where
  pub found : AllByRecursion (λ (e : Entry). IsFound t.limit e.matrix e.found) t.entries
  pub distinct : AreDistinct (matrices_of t.entries)

-- the matrices with another one behind them, where it isn't among them
abbrev pub add_once : List Matrix → Matrix → List Matrix
add_once ms m = if is_among m ms then ms else ms ++ m ∷ []

-- with other ones, one after another
abbrev pub add_all : List Matrix → List Matrix → List Matrix
add_all ms [] = ms
add_all ms (n ∷ ns) = add_all (add_once ms n) ns

-- entries were added for those of some matrices that had none
pub record IsGrown (before : Table) (ms : List Matrix) (after : Table) : Type 0 where
  pub limit : after.limit ≡ before.limit
  pub more : List Entry
  pub entries : after.entries ≡ before.entries ++ more
  pub matrices : matrices_of after.entries ≡ add_all (matrices_of before.entries) ms

-- the matrix of entry k, and what was found of it
abbrev pub matrix_at : Table → ℕ → Option Matrix
matrix_at t k = option_map (λ (e : Entry). e.matrix) (slice_get t.entries k)

abbrev pub graph_at : Table → ℕ → Option Graph
graph_at t k = option_and_then (λ (e : Entry). e.found) (slice_get t.entries k)

-- m is small, and entry k is its own
pub record IsOpened (t : Table) (k : ℕ) (m : Matrix) : Type 0 where
  pub elements : List Vector
  pub small : IsSmall t.limit m elements
  pub entry : slice_get t.entries k ≡ Some (record { matrix = m; found = Some (graph_of m elements) })

-- how a table ends that was asked for the number of m: with the entry of m, which is new where there was none, or, for want of
-- memory, as it was
abbrev pub Opened : Table → Matrix → Result ℕ BaseFault → Table → Type 0
Opened before m (Ok k) after = IsOpened after k m × IsGrown before (m ∷ []) after
Opened before m (Err Memory) after = after ≡ before
Opened before m (Err (Large rows cols)) after =
    (rows ≡ length m.rows) × (cols ≡ length m.target) × IsLarge before.limit m × IsGrown before (m ∷ []) after

-- the greatest degree of a vector that a small matrix may reduce: it has room above the least degree of such a matrix
abbrev pub GREATEST_REDUCED_DEGREE : ℤ
GREATEST_REDUCED_DEGREE = pos 57535
