-- Matrices side by side that a triangle with exact blocks on the diagonal sends to 0 come by the other triangle: first
-- the right one is lifted, then what is left of the left one.
use Rattle.std.proofs.Common.{◌≡◌, []}
use Rattle.sf_algebra.specs.Matrices.{Matrix, IsMatrix}
use Rattle.sf_algebra.specs.MatrixOperations.{matrix_product, IsComposable}
use Rattle.sf_blocks.specs.MatrixSums.{matrix_sum, IsZeroMatrix}
use Rattle.sf_blocks.specs.SideBySide.{AreBeside, AreTriangle, beside, triangle}
use Rattle.sf_blocks.proofs.MatrixSums.SumGroups.{IsMatrix-zero_matrix}
use Rattle.sf_blocks.proofs.TwoByTwo.Triangles.{IsZeroMatrix-triangles}
use Rattle.sf_homotopy.specs.Exactness.{IsExactPair}
use Rattle.sf_homotopy.proofs.Exactness.Lifts.{lift, lift-into, lift-matrix, lift-value}
use Rattle.sf_homotopy.proofs.Triangles.PairLifts.{AreTriangle-no_rows, lift_pair, no_rows}

-- what composes behind a matrix composes behind one without rows
IsComposable-no_rows : (u a : Matrix) → IsComposable u a → IsComposable (no_rows u) a
IsComposable-no_rows u a h = record { positive = h.positive; rings = h.rings; degrees = h.degrees }

module _ (a l b c m d : Matrix) (h : AreTriangle a l b) (k : AreTriangle c m d) (ml : IsMatrix l) (mm : IsMatrix m)
    (first : IsExactPair a c) (last : IsExactPair b d)
    (none : IsZeroMatrix (matrix_product (triangle c m d) (triangle a l b))) (u w : Matrix) (mu : IsMatrix u)
    (mw : IsMatrix w) (together : AreBeside u w) (ua : IsComposable u a) (wb : IsComposable w b)
    (gone : IsZeroMatrix (matrix_product (beside u w) (triangle a l b))) where
  -- what the two zeros say of the blocks
  below : IsZeroMatrix (matrix_sum (matrix_product m a) (matrix_product d l))
  below =
      ((IsZeroMatrix-triangles c m d a l b k h first.meet last.meet first.into_matrix mm last.into_matrix
      first.out_matrix ml last.out_matrix).0 none).1.0

  parts : IsZeroMatrix (matrix_product (no_rows u) a)
      × (IsZeroMatrix (matrix_sum (matrix_product u a) (matrix_product w l)) × IsZeroMatrix (matrix_product w b))
  parts =
      (IsZeroMatrix-triangles (no_rows u) u w a l b (AreTriangle-no_rows u w together) h (IsComposable-no_rows u a ua)
      wb (IsMatrix-zero_matrix u.ring [] u.target) mu mw first.out_matrix ml last.out_matrix).0 gone

  abbrev right : Matrix
  right = lift b d last w mw wb parts.1.1

  right-matrix : IsMatrix right
  right-matrix = lift-matrix b d last w mw wb parts.1.1

  right-value : matrix_product right d ≡ w
  right-value = lift-value b d last w mw wb parts.1.1

  pub lift_beside : (e : Matrix) × IsMatrix e × IsComposable e (triangle c m d)
      × (matrix_product e (triangle c m d) ≡ beside u w)
  lift_beside =
      lift_pair a l c m d h.targets k mm last.into_matrix first below u w right mu together ua parts.1.0 right-matrix
      (lift-into b d last w mw wb parts.1.1) right-value
