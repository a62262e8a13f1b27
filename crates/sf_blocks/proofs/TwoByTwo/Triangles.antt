-- Triangles, their products, and what makes a product zero.
use Rattle.std.proofs.Common.{◌≡◌, ◌↔◌, refl, ◌++◌, ap, sym, ◌∙◌, subst}
use Rattle.sf_algebra.specs.Matrices.{Matrix, row_degrees, IsMatrix}
use Rattle.sf_algebra.specs.MatrixOperations.{matrix_product, IsComposable}
use Rattle.sf_algebra.proofs.GradedMatrices.MatrixProducts.{IsMatrix-matrix_product, row_degrees-matrix_product}
use Rattle.sf_blocks.specs.MatrixSums.{matrix_sum, zero_matrix, IsZeroMatrix}
use Rattle.sf_blocks.specs.SideBySide.{AreBeside, AreBlocks, AreTriangle, beside, blocks, triangle}
use Rattle.sf_blocks.proofs.MatrixSums.SumGroups.{row_degrees-zero_matrix, IsMatrix-zero_matrix, row_degrees-matrix_sum}
use Rattle.sf_blocks.proofs.TwoByTwo.Blocks.{IsMatrix-blocks, row_degrees-blocks}
use Rattle.sf_blocks.proofs.TwoByTwo.BlockProducts.{AreParallel-left, AreParallel-right, IsComposable-lower_first, IsComposable-lower_second, matrix_product-blocks}
use Rattle.sf_blocks.proofs.TwoByTwo.ZeroParts.{IsZeroMatrix-zero_matrix, IsZeroMatrix-sum, IsZeroMatrix-product_first, IsZeroMatrix-product_second, IsZeroMatrix-beside, IsZeroMatrix-stacked, matrix_sum-zero_first, matrix_sum-zero_second}

pub AreBlocks-triangle : (a l b : Matrix) → AreTriangle a l b
    → AreBlocks a (zero_matrix a.ring (row_degrees a) b.target) l b
AreBlocks-triangle a l b h = record {
  upper = record { rings = refl; degrees = sym (row_degrees-zero_matrix a.ring (row_degrees a) b.target) };
  lower = h.lower;
  rings = h.rings;
  left = h.targets;
  right = refl;
}

pub IsMatrix-triangle : (a l b : Matrix) → AreTriangle a l b → IsMatrix a → IsMatrix l → IsMatrix b
    → IsMatrix (triangle a l b)
IsMatrix-triangle a l b h ma ml mb =
    IsMatrix-blocks a (zero_matrix a.ring (row_degrees a) b.target) l b (AreBlocks-triangle a l b h) ma
    (IsMatrix-zero_matrix a.ring (row_degrees a) b.target) ml mb

pub row_degrees-triangle : (a l b : Matrix) → AreTriangle a l b
    → row_degrees (triangle a l b) ≡ row_degrees a ++ row_degrees l
row_degrees-triangle a l b h =
    row_degrees-blocks a (zero_matrix a.ring (row_degrees a) b.target) l b (AreBlocks-triangle a l b h)

pub IsZeroMatrix-blocks : (a b c d : Matrix) → AreBeside a b → AreBeside c d
    → IsZeroMatrix (blocks a b c d) ↔ (IsZeroMatrix a × (IsZeroMatrix b × (IsZeroMatrix c × IsZeroMatrix d)))
IsZeroMatrix-blocks a b c d h k =
    let s = IsZeroMatrix-stacked (beside a b) (beside c d) in
    let u = IsZeroMatrix-beside a b h in
    let v = IsZeroMatrix-beside c d k in (
      λ z. ((u.0 (s.0 z).0).0, ((u.0 (s.0 z).0).1, ((v.0 (s.0 z).1).0, (v.0 (s.0 z).1).1))),
      λ z. s.1 (u.1 (z.0, z.1.0), v.1 (z.1.1.0, z.1.1.1)),
    )

module _ (a l b c m d : Matrix) (h : AreTriangle a l b) (k : AreTriangle c m d) (x : IsComposable a c)
    (y : IsComposable b d) where
  abbrev zero_above : Matrix
  zero_above = zero_matrix a.ring (row_degrees a) b.target

  abbrev zero_below : Matrix
  zero_below = zero_matrix c.ring (row_degrees c) d.target

  -- zeros compose as what stands below them
  composable_above : IsComposable zero_above m
  composable_above = record {
    positive = x.positive;
    rings = h.rings ∙ h.lower.rings ∙ y.rings ∙ sym k.lower.rings;
    degrees = k.lower.degrees ∙ y.degrees;
  }

  module _ (ma : IsMatrix a) (ml : IsMatrix l) (mb : IsMatrix b) (mc : IsMatrix c) (mm : IsMatrix m)
      (md : IsMatrix d) where
    pub matrix_product-triangles : matrix_product (triangle a l b) (triangle c m d)
        ≡ triangle (matrix_product a c) (matrix_sum (matrix_product l c) (matrix_product b m)) (matrix_product b d)
    matrix_product-triangles =
        let z = zero_above in
        let w = zero_below in
        let p = AreBlocks-triangle a l b h in
        let q = AreBlocks-triangle c m d k in
        let mz = IsMatrix-zero_matrix a.ring (row_degrees a) b.target in
        let mw = IsMatrix-zero_matrix c.ring (row_degrees c) d.target in
        let zero_z = IsZeroMatrix-zero_matrix a.ring (row_degrees a) b.target in
        let zero_w = IsZeroMatrix-zero_matrix c.ring (row_degrees c) d.target in
        let lc = IsComposable-lower_first a z l b c w m d p q x composable_above in
        let bm = IsComposable-lower_second a z l b c w m d p q x composable_above in
        let left = AreParallel-left a z c w m d p.upper q x composable_above in
        let right = AreParallel-right a z c w m d p.upper q x composable_above in
        let below = AreParallel-right l b c w m d p.lower q lc bm in
        let first : matrix_sum (matrix_product a c) (matrix_product z m) ≡ matrix_product a c =
        matrix_sum-zero_second (matrix_product a c) (matrix_product z m) left x.positive
        (IsMatrix-matrix_product a c x ma mc) (IsZeroMatrix-product_first z m x.positive zero_z) in
        let corner : matrix_sum (matrix_product a w) (matrix_product z d)
        ≡ zero_matrix a.ring (row_degrees (matrix_product a c)) d.target =
        IsZeroMatrix-sum (matrix_product a w) (matrix_product z d) right
        (IsZeroMatrix-product_second a w x.positive zero_w) (IsZeroMatrix-product_first z d x.positive zero_z)
        ∙ ap (λ ds. zero_matrix a.ring ds d.target)
        (row_degrees-matrix_sum (matrix_product a w) (matrix_product z d) right
        ∙ row_degrees-matrix_product a w
        ∙ sym (row_degrees-matrix_product a c)) in
        let last : matrix_sum (matrix_product l w) (matrix_product b d) ≡ matrix_product b d =
        matrix_sum-zero_first (matrix_product l w) (matrix_product b d) below lc.positive
        (IsMatrix-matrix_product b d y mb md) (IsZeroMatrix-product_second l w lc.positive zero_w) in
        matrix_product-blocks a z l b c w m d p q x composable_above ma mz ml mb mc mw mm md
        ∙ (λ i. blocks (first i) (corner i) (matrix_sum (matrix_product l c) (matrix_product b m)) (last i))

    pub IsZeroMatrix-triangles : IsZeroMatrix (matrix_product (triangle a l b) (triangle c m d))
        ↔ (IsZeroMatrix (matrix_product a c)
        × (IsZeroMatrix (matrix_sum (matrix_product l c) (matrix_product b m)) × IsZeroMatrix (matrix_product b d)))
    IsZeroMatrix-triangles =
        let z = zero_above in
        let w = zero_below in
        let p = AreBlocks-triangle a l b h in
        let q = AreBlocks-triangle c m d k in
        let lc = IsComposable-lower_first a z l b c w m d p q x composable_above in
        let bm = IsComposable-lower_second a z l b c w m d p q x composable_above in
        let sum = matrix_sum (matrix_product l c) (matrix_product b m) in
        let corner = zero_matrix a.ring (row_degrees (matrix_product a c)) d.target in
        let upper : AreBeside (matrix_product a c) corner =
        record {
          rings = refl;
          degrees = sym
              (row_degrees-zero_matrix a.ring (row_degrees (matrix_product a c)) d.target);
        } in
        let lower : AreBeside sum (matrix_product b d) =
        record {
          rings = h.lower.rings;
          degrees = row_degrees-matrix_sum (matrix_product l c) (matrix_product b m)
              (AreParallel-left l b c w m d p.lower q lc bm) ∙ row_degrees-matrix_product l c ∙ h.lower.degrees
              ∙ sym (row_degrees-matrix_product b d);
        } in
        let same = matrix_product-triangles in
        let parts = IsZeroMatrix-blocks (matrix_product a c) corner sum (matrix_product b d) upper lower in (
          λ zero. let all = parts.0 (subst IsZeroMatrix same zero) in (all.0, (all.1.1.0, all.1.1.1)),
          λ zeros. subst IsZeroMatrix (sym same)
              (parts.1 (
                zeros.0,
                (
                  IsZeroMatrix-zero_matrix a.ring (row_degrees (matrix_product a c)) d.target,
                  (zeros.1.0, zeros.1.1),
                ),
              )),
        )
