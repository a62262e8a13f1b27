-- Direct sums of relations, and matrices that are zero modulo relations. (Any textbook of algebra.)
use Rattle.std.specs.Prelude.{◌≡◌}
use Rattle.std.specs.List.{AllByRecursion}
use Rattle.sf_algebra.specs.Matrices.{Matrix, row_degrees, IsMatrix}
use Rattle.sf_groebner.specs.Spans.{InSpan}
use Rattle.sf_blocks.specs.MatrixSums.{zero_matrix}
use Rattle.sf_blocks.specs.SideBySide.{triangle}

-- the rows (a, 0), and below them (0, b): the relations of the direct sum of two presented modules
abbrev pub direct_sum : Matrix → Matrix → Matrix
direct_sum a b = triangle a (zero_matrix a.ring (row_degrees b) a.target) b

-- r is a matrix with the ring and the target of m
pub record AreRelations (r m : Matrix) : Type 0 where
  pub rings : r.ring ≡ m.ring
  pub targets : r.target ≡ m.target
  pub matrix : IsMatrix r

-- each row of m is in the span of the relations r
abbrev pub IsZeroModulo : Matrix → Matrix → Type 0
IsZeroModulo r m = AllByRecursion (InSpan r) m.rows
