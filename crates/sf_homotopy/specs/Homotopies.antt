-- Contracting homotopies: maps that go the other way in a complex, whose composites with its maps add up to 1. (Weibel,
-- "An Introduction to Homological Algebra", section 1.4: split exact complexes.)
use Rattle.std.specs.Prelude.{◌≡◌, ◌<◌, List, [], ◌∷◌}
use Rattle.sf_algebra.specs.Matrices.{Matrix, row_degrees, IsMatrix}
use Rattle.sf_algebra.specs.MatrixOperations.{identity, matrix_product, IsComposable}
use Rattle.sf_blocks.specs.MatrixSums.{AreParallel, matrix_sum}

-- at a free module that `out` leaves and where `into` arrives, `back` goes against `out`, `forth` goes against `into`,
-- and the two ways out and back and forth and in add up to 1
pub record IsHomotopy (out back forth into : Matrix) : Type 0 where
  pub above_one : 1 < out.ring.modulus
  pub out_matrix : IsMatrix out
  pub back_matrix : IsMatrix back
  pub forth_matrix : IsMatrix forth
  pub into_matrix : IsMatrix into
  pub out_back : IsComposable out back
  pub forth_into : IsComposable forth into
  pub parallel : AreParallel (matrix_product out back) (matrix_product forth into)
  pub sum : matrix_sum (matrix_product out back) (matrix_product forth into) ≡ identity out.ring (row_degrees out)

-- with `back` against `out`, there is one at each place from the module on that `out` leaves
abbrev pub AreContracted : Matrix → Matrix → List Matrix → Type 0
AreContracted out back [] = Unit {0}
AreContracted out back (into ∷ more) =
    (forth : Matrix) × IsHomotopy out back forth into × AreContracted into forth more
