-- The blocks of the product of two total differentials.
use Rattle.std.proofs.Common.{◌≡◌, refl, ◌<◌, List, [], ◌∷◌, ◌++◌, length, drop, ℤ, ap, sym, ◌∙◌, subst, arith}
use Rattle.sf_algebra.specs.Matrices.{Matrix, row_degrees, IsMatrix}
use Rattle.sf_algebra.specs.MatrixOperations.{row_at, matrix_product, IsComposable}
use Rattle.sf_algebra.specs.Rings.{Ring}
use Rattle.sf_algebra.specs.Terms.{Term}
use Rattle.sf_algebra.specs.Vectors.{Place}
use Rattle.sf_algebra.proofs.GradedMatrices.MatrixProducts.{IsMatrix-matrix_product, row_degrees-matrix_product}
use Rattle.sf_algebra.proofs.GradedMatrices.MatrixRows.{StandsWithin, IsWithin-matrix_row}
use Rattle.sf_blocks.specs.MatrixSums.{AreParallel, matrix_sum, zero_matrix, IsZeroMatrix}
use Rattle.sf_blocks.specs.SideBySide.{AreBeside, beside, blocks}
use Rattle.sf_blocks.specs.TotalDifferentials.{Spot, IsSpot, AreDiagonal, AreSpotsBelow, first_target, total_source, total_target, total_differential, widened}
use Rattle.sf_blocks.proofs.MatrixSums.SumGroups.{row_degrees-matrix_sum, IsMatrix-matrix_sum, row_degrees-zero_matrix, IsMatrix-zero_matrix, same_zero}
use Rattle.sf_blocks.proofs.SideBySide.Beside.{IsMatrix-beside}
use Rattle.sf_blocks.proofs.SideBySide.BesideLaws.{matrix_sum-beside}
use Rattle.sf_blocks.proofs.SideBySide.BesideProducts.{IsComposable-beside, IsComposable-second, AreBeside-products, AreParallel-products, matrix_product-beside, matrix_product-beside_stacked}
use Rattle.sf_blocks.proofs.TwoByTwo.BlockProducts.{AreParallel-left, AreParallel-right, IsComposable-lower_first, IsComposable-lower_second, matrix_product-blocks}
use Rattle.sf_blocks.proofs.TwoByTwo.ZeroParts.{IsZeroMatrix-zero_matrix, IsZeroMatrix-sum, IsZeroMatrix-product_first, IsZeroMatrix-product_second, matrix_sum-zero_first, matrix_sum-zero_second}
use Rattle.sf_blocks.proofs.Totals.TotalMatrices.{IsTotal, total, total_source-below, AreBlocks-total, zeros_behind, AreBeside-zeros_behind, IsMatrix-widened, drop-first_target, drop-second_target}

-- m is the matrix of these blocks
pub record IsOfBlocks (m a b c d : Matrix) : Type 0 where
  pub same : m ≡ blocks a b c d
  pub upper : AreBeside a b
  pub lower : AreBeside c d
  pub first : IsMatrix a
  pub second : IsMatrix b
  pub third : IsMatrix c
  pub fourth : IsMatrix d

-- m is these two matrices side by side
pub record IsPair (m a b : Matrix) : Type 0 where
  pub same : m ≡ beside a b
  pub together : AreBeside a b
  pub first : IsMatrix a
  pub last : IsMatrix b

-- a matrix without columns is zero
no_places : (ts : List (Term Place)) → StandsWithin 0 ts → ts ≡ []
no_places [] h = refl
no_places (t ∷ ts) h = absurd (omega (arith, h.0))

pub IsZeroMatrix-no_columns : (m : Matrix) → IsMatrix m → m.target ≡ [] → IsZeroMatrix m
IsZeroMatrix-no_columns m h none =
    same_zero m
    (λ i. no_places (row_at m.rows i)
    (subst (λ (ds : List ℤ). StandsWithin (length ds) (row_at m.rows i)) none
    (IsWithin-matrix_row m.ring m.target m.rows h i)))

-- a product with a widened matrix is the product, widened by zeros
module _ (a m : Matrix) (target : List ℤ) (x : IsComposable a m) (ma : IsMatrix a) (mm : IsMatrix m) where
  pub matrix_product-widened : matrix_product a (widened target m)
      ≡ beside (matrix_product a m) (matrix_product a (zeros_behind m target))
  matrix_product-widened =
      matrix_product-beside a m (zeros_behind m target) x (AreBeside-zeros_behind m target) ma mm
      (IsMatrix-zero_matrix m.ring (row_degrees m) (drop (length m.target) target))

-- the upper right block of the product
module _ (ring : Ring) (positive : 0 < ring.modulus) (s t : Spot) (ss ts : List Spot)
    (hs : IsSpot ring (first_target ss) s) (ht : IsSpot ring (first_target ts) t) (dss : AreDiagonal ring ss)
    (dts : AreDiagonal ring ts) (below : row_degrees t.vertical ≡ s.vertical.target) (others : AreSpotsBelow ss ts) where
  abbrev pub corner : Matrix
  corner =
      matrix_sum (matrix_product s.vertical (widened (total_target ts) t.horizontal))
      (matrix_product (widened (total_target ss) s.horizontal) (total_differential ring ts))

  is_total : IsTotal ring ts
  is_total = total ring ts dts

  vertical_composable : IsComposable s.vertical t.vertical
  vertical_composable = record {
    positive = subst (λ (q : Ring). 0 < q.modulus) (sym hs.ring_of) positive;
    rings = hs.ring_of ∙ sym ht.ring_of;
    degrees = below;
  }

  -- dv and then dh
  crossing_composable : IsComposable s.vertical t.horizontal
  crossing_composable = IsComposable-second s.vertical t.vertical t.horizontal vertical_composable ht.together

  horizontal_ring : s.horizontal.ring ≡ ring
  horizontal_ring = sym hs.together.rings ∙ hs.ring_of

  zeros_composable : IsComposable (widened (total_target ss) s.horizontal)
      (zero_matrix ring (total_source ts) t.vertical.target)
  zeros_composable = record {
    positive = subst (λ (q : Ring). 0 < q.modulus) (sym horizontal_ring) positive;
    rings = horizontal_ring;
    degrees =
        row_degrees-zero_matrix ring (total_source ts) t.vertical.target
        ∙ total_source-below ss ts others
        ∙ sym (drop-first_target ss s.horizontal.target hs.left_of);
  }

  corner_parallel : AreParallel (matrix_product s.vertical (widened (total_target ts) t.horizontal))
      (matrix_product (widened (total_target ss) s.horizontal) (total_differential ring ts))
  corner_parallel =
      AreParallel-right s.vertical (widened (total_target ss) s.horizontal) t.vertical
      (widened (total_target ts) t.horizontal)
      (zero_matrix ring (total_source ts) t.vertical.target) (total_differential ring ts)
      (AreBlocks-total ring s ss hs (total ring ss dss)).upper (AreBlocks-total ring t ts ht is_total)
      vertical_composable zeros_composable

  -- the lower left block of the product
  abbrev pub low : Matrix
  low =
      matrix_sum (matrix_product (zero_matrix ring (total_source ss) s.vertical.target) t.vertical)
      (matrix_product (total_differential ring ss) (zero_matrix ring (total_source ts) t.vertical.target))

  -- the blocks of the product, of which the lower left one is zero
  pub product_blocks : IsOfBlocks
      (matrix_product (total_differential ring (s ∷ ss)) (total_differential ring (t ∷ ts)))
      (matrix_product s.vertical t.vertical) corner low
      (matrix_product (total_differential ring ss) (total_differential ring ts)) × IsZeroMatrix low
  product_blocks =
      let ks = total ring ss dss in
      let v = s.vertical in
      let w = widened (total_target ss) s.horizontal in
      let z = zero_matrix ring (total_source ss) s.vertical.target in
      let r = total_differential ring ss in
      let v' = t.vertical in
      let w' = widened (total_target ts) t.horizontal in
      let z' = zero_matrix ring (total_source ts) t.vertical.target in
      let r' = total_differential ring ts in
      let p = AreBlocks-total ring s ss hs ks in
      let q = AreBlocks-total ring t ts ht is_total in
      let x = vertical_composable in
      let y = zeros_composable in
      let zx = IsComposable-lower_first v w z r v' w' z' r' p q x y in
      let zy = IsComposable-lower_second v w z r v' w' z' r' p q x y in
      let mw = IsMatrix-widened s.horizontal (total_target ss) hs.horizontal in
      let mw' = IsMatrix-widened t.horizontal (total_target ts) ht.horizontal in
      let mz = IsMatrix-zero_matrix ring (total_source ss) s.vertical.target in
      let mz' = IsMatrix-zero_matrix ring (total_source ts) t.vertical.target in
      let zero = IsZeroMatrix-zero_matrix ring (total_source ss) s.vertical.target in
      let zero' = IsZeroMatrix-zero_matrix ring (total_source ts) t.vertical.target in
      let zw = IsComposable-second z v' w' zx q.upper in
      let rr = IsComposable-second r z' r' zy q.lower in
      let left = AreParallel-left v w v' w' z' r' p.upper q x y in
      let below_left = AreParallel-left z r v' w' z' r' p.lower q zx zy in
      let below_right = AreParallel-right z r v' w' z' r' p.lower q zx zy in
      let first : matrix_sum (matrix_product v v') (matrix_product w z') ≡ matrix_product v v' =
      matrix_sum-zero_second (matrix_product v v') (matrix_product w z') left x.positive
      (IsMatrix-matrix_product v v' x hs.vertical ht.vertical) (IsZeroMatrix-product_second w z' y.positive zero') in
      let last : matrix_sum (matrix_product z w') (matrix_product r r') ≡ matrix_product r r' =
      matrix_sum-zero_first (matrix_product z w') (matrix_product r r') below_right zx.positive
      (IsMatrix-matrix_product r r' rr ks.matrix is_total.matrix) (IsZeroMatrix-product_first z w' zx.positive zero) in
      let low_zero : IsZeroMatrix low =
      IsZeroMatrix-sum (matrix_product z v') (matrix_product r z') below_left
      (IsZeroMatrix-product_first z v' zx.positive zero) (IsZeroMatrix-product_second r z' zy.positive zero') in
      let same : matrix_product (total_differential ring (s ∷ ss)) (total_differential ring (t ∷ ts))
      ≡ blocks (matrix_product v v') corner low (matrix_product r r') =
      matrix_product-blocks v w z r v' w' z' r' p q x y hs.vertical mw mz ks.matrix ht.vertical mw' mz' is_total.matrix
      ∙ (λ i. blocks (first i) corner low (last i)) in
      let upper : AreBeside (matrix_product v v') corner =
      record {
        rings = refl;
        degrees = row_degrees-matrix_product v v'
            ∙ sym (row_degrees-matrix_sum (matrix_product v w') (matrix_product w r') corner_parallel
            ∙ row_degrees-matrix_product v w');
      } in
      let lower : AreBeside low (matrix_product r r') =
      record {
        rings = p.lower.rings;
        degrees = row_degrees-matrix_sum (matrix_product z v') (matrix_product r z')
            below_left ∙ row_degrees-matrix_product z v' ∙ p.lower.degrees ∙ sym (row_degrees-matrix_product r r');
      } in
      let vw = IsComposable-second v v' w' x q.upper in
      let wr = IsComposable-second w z' r' y q.lower in (
        record {
          same = same;
          upper = upper;
          lower = lower;
          first = IsMatrix-matrix_product v v' x hs.vertical ht.vertical;
          second =
              IsMatrix-matrix_sum (matrix_product v w') (matrix_product w r') corner_parallel x.positive
              (IsMatrix-matrix_product v w' vw hs.vertical mw') (IsMatrix-matrix_product w r' wr mw is_total.matrix);
          third =
              IsMatrix-matrix_sum (matrix_product z v') (matrix_product r z') below_left zx.positive
              (IsMatrix-matrix_product z v' zx mz ht.vertical) (IsMatrix-matrix_product r z' zy ks.matrix mz');
          fourth = IsMatrix-matrix_product r r' rr ks.matrix is_total.matrix;
        },
        low_zero,
      )

  pub target-corner : corner.target ≡ total_target ts
  target-corner = drop-first_target ts t.horizontal.target ht.left_of

  -- no spot further left
  pub corner-none : ts ≡ [] → IsZeroMatrix corner
  corner-none none = IsZeroMatrix-no_columns corner product_blocks.0.second (target-corner ∙ ap total_target none)

-- spots further left
module _ (ring : Ring) (positive : 0 < ring.modulus) (s t l u : Spot) (ss ts : List Spot)
    (hs : IsSpot ring l.vertical.target s) (ht : IsSpot ring u.vertical.target t) (dss : AreDiagonal ring (l ∷ ss))
    (dts : AreDiagonal ring (u ∷ ts)) (below : row_degrees t.vertical ≡ s.vertical.target)
    (others : AreSpotsBelow (l ∷ ss) (u ∷ ts)) where
  -- the corner is (dv dh + dh dv, dh dh, 0)
  pub corner_pairs : IsPair (corner ring positive s t (l ∷ ss) (u ∷ ts) hs ht dss dts below others)
      (matrix_sum (matrix_product s.vertical t.horizontal) (matrix_product s.horizontal u.vertical))
      (matrix_product s.horizontal (widened (total_target ts) u.horizontal))
      × (IsPair (matrix_product s.horizontal (widened (total_target ts) u.horizontal))
      (matrix_product s.horizontal u.horizontal)
      (matrix_product s.horizontal (zeros_behind u.horizontal (total_target ts)))
      × IsZeroMatrix (matrix_product s.horizontal (zeros_behind u.horizontal (total_target ts))))
  corner_pairs =
      let v = s.vertical in
      let h = s.horizontal in
      let h' = t.horizontal in
      let here = total_target (l ∷ ss) in
      let there = total_target (u ∷ ts) in
      let y = zeros_behind h here in
      let y' = zeros_behind h' there in
      let w = widened (total_target ts) u.horizontal in
      let z = zero_matrix ring (total_source ts) u.vertical.target in
      let r = total_differential ring ts in
      let ks = total ring ts dts.1 in
      let q = AreBlocks-total ring u ts dts.0 ks in
      let vh = crossing_composable ring positive s t (l ∷ ss) (u ∷ ts) hs ht dss dts below others in
      let hv : IsComposable h u.vertical = record {
        positive = subst (λ (q : Ring). 0 < q.modulus) hs.together.rings vh.positive;
        rings = sym hs.together.rings ∙ hs.ring_of ∙ sym dts.0.ring_of;
        degrees = others.0 ∙ sym hs.left_of;
      } in
      let hh = IsComposable-second h u.vertical u.horizontal hv dts.0.together in
      let hw = IsComposable-second h u.vertical w hv q.upper in
      let yz : IsComposable y z = record {
        positive = hv.positive;
        rings = hv.rings ∙ dts.0.ring_of;
        degrees = row_degrees-zero_matrix ring (total_source ts) u.vertical.target ∙ total_source-below ss ts others.1
            ∙ sym (drop-second_target l ss h.target hs.left_of);
      } in
      let yzr = IsComposable-beside y z r yz q.lower in
      let hvw = IsComposable-beside h u.vertical w hv q.upper in
      let mw = IsMatrix-widened u.horizontal (total_target ts) dts.0.horizontal in
      let my = IsMatrix-zero_matrix h.ring (row_degrees h) (drop (length h.target) here) in
      let zero_y = IsZeroMatrix-zero_matrix h.ring (row_degrees h) (drop (length h.target) here) in
      let my' = IsMatrix-zero_matrix h'.ring (row_degrees h') (drop (length h'.target) there) in
      let zero_y' = IsZeroMatrix-zero_matrix h'.ring (row_degrees h') (drop (length h'.target) there) in
      let vy' = IsComposable-second v h' y' vh (AreBeside-zeros_behind h' there) in
      let targets : (beside u.vertical w).target ≡ (beside z r).target = λ i. u.vertical.target ++ q.right i in
      let second : matrix_product (beside h y) (total_differential ring (u ∷ ts))
      ≡ beside (matrix_product h u.vertical) (matrix_product h w) =
      matrix_product-beside_stacked h y (beside u.vertical w) (beside z r) (AreBeside-zeros_behind h here) hvw yzr
      targets hs.horizontal
      ∙ matrix_sum-zero_second (matrix_product h (beside u.vertical w)) (matrix_product y (beside z r))
      (AreParallel-products h y (beside u.vertical w) (beside z r) (AreBeside-zeros_behind h here) hvw yzr targets)
      hv.positive (IsMatrix-matrix_product h (beside u.vertical w) hvw hs.horizontal
      (IsMatrix-beside u.vertical w q.upper dts.0.vertical mw))
      (IsZeroMatrix-product_first y (beside z r) hv.positive zero_y)
      ∙ matrix_product-beside h u.vertical w hv q.upper hs.horizontal dts.0.vertical mw in
      let first = matrix_product-widened v h' there vh hs.vertical ht.horizontal in
      let crossing : AreParallel (matrix_product v h') (matrix_product h u.vertical) = record {
        rings = hs.together.rings;
        targets = ht.left_of;
        degrees = row_degrees-matrix_product v h' ∙ hs.together.degrees ∙ sym (row_degrees-matrix_product h u.vertical);
      } in
      let right : AreParallel (matrix_product v y') (matrix_product h w) = record {
        rings = hs.together.rings;
        targets = drop-second_target u ts h'.target ht.left_of ∙ sym ks.target ∙ sym q.right;
        degrees = row_degrees-matrix_product v y' ∙ hs.together.degrees ∙ sym (row_degrees-matrix_product h w);
      } in
      let pair = AreBeside-products v h' y' vh (AreBeside-zeros_behind h' there) in
      let x = matrix_sum (matrix_product v h') (matrix_product h u.vertical) in
      let same : corner ring positive s t (l ∷ ss) (u ∷ ts) hs ht dss dts below others ≡ beside x (matrix_product h w) =
      (λ i. matrix_sum (first i) (second i))
      ∙ matrix_sum-beside (matrix_product v h') (matrix_product v y') (matrix_product h u.vertical)
      (matrix_product h w) vh.positive pair crossing right
      (IsMatrix-matrix_product v h' vh hs.vertical ht.horizontal) (IsMatrix-matrix_product v y' vy' hs.vertical my')
      (IsMatrix-matrix_product h u.vertical hv hs.horizontal dts.0.vertical)
      (IsMatrix-matrix_product h w hw hs.horizontal mw)
      ∙ ap (beside x) (matrix_sum-zero_first (matrix_product v y') (matrix_product h w) right vh.positive
      (IsMatrix-matrix_product h w hw hs.horizontal mw) (IsZeroMatrix-product_second v y' vh.positive zero_y')) in
      let beside_x : AreBeside x (matrix_product h w) = record {
        rings = hs.together.rings;
        degrees = row_degrees-matrix_sum (matrix_product v h') (matrix_product h u.vertical) crossing
            ∙ row_degrees-matrix_product v h' ∙ hs.together.degrees ∙ sym (row_degrees-matrix_product h w);
      } in
      let g = u.horizontal in
      let z_g = zeros_behind g (total_target ts) in
      let mz_g = IsMatrix-zero_matrix g.ring (row_degrees g) (drop (length g.target) (total_target ts)) in
      let hz = IsComposable-second h g z_g hh (AreBeside-zeros_behind g (total_target ts)) in (
        record {
          same = same;
          together = beside_x;
          first =
              IsMatrix-matrix_sum (matrix_product v h') (matrix_product h u.vertical) crossing vh.positive
              (IsMatrix-matrix_product v h' vh hs.vertical ht.horizontal)
              (IsMatrix-matrix_product h u.vertical hv hs.horizontal dts.0.vertical);
          last = IsMatrix-matrix_product h w hw hs.horizontal mw;
        },
        (
          record {
            same = matrix_product-widened h g (total_target ts) hh hs.horizontal dts.0.horizontal;
            together = AreBeside-products h g z_g hh (AreBeside-zeros_behind g (total_target ts));
            first = IsMatrix-matrix_product h g hh hs.horizontal dts.0.horizontal;
            last = IsMatrix-matrix_product h z_g hz hs.horizontal mz_g;
          },
          IsZeroMatrix-product_second h z_g hh.positive
              (IsZeroMatrix-zero_matrix g.ring (row_degrees g) (drop (length g.target) (total_target ts))),
        ),
      )
