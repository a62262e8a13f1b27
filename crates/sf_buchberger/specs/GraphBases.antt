-- What the reduced basis of a matrix's graph gives, and why it isn't given. (Cox, Little, O'Shea, "Using Algebraic Geometry",
-- chapter 5, section 3; the bounds are this project's own.)
use Rattle.std.specs.Prelude.{◌≡◌, ◌+◌, ℕ, List, ◌++◌, length}
use Rattle.sf_algebra.specs.Matrices.{Matrix, row_degrees}
use Rattle.sf_algebra.specs.MatrixOperations.{unit_vector}
use Rattle.sf_algebra.specs.Vectors.{Vector}
use Rattle.sf_groebner.specs.BasisParts.{values_of, coefficients_of, syzygies_of}
use Rattle.sf_groebner.specs.MinimalGenerators.{matrix_of}
use Rattle.sf_groebner.specs.Small.{IsSmall, IsLarge}
use Rattle.sf_matrix.specs.declared.basis.BaseFault.TheVariants.{Memory, Large}
use Rattle.sf_matrix.specs.declared.basis.BaseFault.{BaseFault}

-- m is small, and these are the values, the coefficients beside them and the syzygies of the reduced basis of its graph
pub record IsGraph (limit : ℕ) (m basis coefficients syzygies : Matrix) : Type 0 where
  pub elements : List Vector
  pub small : IsSmall limit m elements
  pub basis_rows : basis ≡ matrix_of m.ring m.target (values_of m elements)
  pub coefficient_rows : coefficients ≡ matrix_of m.ring (row_degrees m) (coefficients_of m elements)
  pub syzygy_rows : syzygies ≡ matrix_of m.ring (row_degrees m) (syzygies_of m elements)

-- m has so many rows and columns and is large; want of memory says nothing
abbrev pub IsFault : ℕ → Matrix → BaseFault → Type 0
IsFault limit m Memory = Unit {0}
IsFault limit m (Large rows cols) = (rows ≡ length m.rows) × (cols ≡ length m.target) × IsLarge limit m

-- the ticks after a fault: one more where the matrix is large
abbrev pub IsTicked : BaseFault → ℕ → ℕ → Type 0
IsTicked Memory before after = after ≡ before
IsTicked (Large rows cols) before after = after ≡ before + 1

-- v with the unit vector of its degree at position i behind it
abbrev pub with_unit : ℕ → Vector → Vector
with_unit i v = record { degree = v.degree; terms = v.terms ++ (unit_vector v.degree i).terms }

-- a matrix with these rows below its own
abbrev pub with_rows : Matrix → List Vector → Matrix
with_rows m vs = record { ring = m.ring; target = m.target; rows = m.rows ++ vs }

-- the free modules of the values of m, their coefficients and the syzygies
pub record HaveModules (m basis coefficients syzygies : Matrix) : Type 0 where
  pub values : (basis.ring ≡ m.ring) × (basis.target ≡ m.target)
  pub combinations : (coefficients.ring ≡ m.ring) × (coefficients.target ≡ row_degrees m)
  pub relations : (syzygies.ring ≡ m.ring) × (syzygies.target ≡ row_degrees m)

-- these are the values, the coefficients beside them and the syzygies of some vectors of the graph of m
pub record AreParts (m : Matrix) (vs : List Vector) (basis coefficients syzygies : Matrix) : Type 0 where
  pub basis_rows : basis ≡ matrix_of m.ring m.target (values_of m vs)
  pub coefficient_rows : coefficients ≡ matrix_of m.ring (row_degrees m) (coefficients_of m vs)
  pub syzygy_rows : syzygies ≡ matrix_of m.ring (row_degrees m) (syzygies_of m vs)
