-- Products of blocks.
use Rattle.std.proofs.Common.{◌≡◌, ◌<◌, ◌++◌, sym, ◌∙◌, subst}
use Rattle.sf_algebra.specs.Matrices.{Matrix, IsMatrix}
use Rattle.sf_algebra.specs.MatrixOperations.{matrix_product, stacked, IsComposable}
use Rattle.sf_algebra.specs.Rings.{Ring}
use Rattle.sf_algebra.proofs.GradedMatrices.MatrixProducts.{IsMatrix-matrix_product}
use Rattle.sf_algebra.proofs.GradedMatrices.ProductLaws.{matrix_product-stacked}
use Rattle.sf_blocks.specs.MatrixSums.{AreParallel, matrix_sum}
use Rattle.sf_blocks.specs.SideBySide.{AreBeside, AreBlocks, beside, blocks}
use Rattle.sf_blocks.proofs.SideBySide.BesideLaws.{matrix_sum-beside}
use Rattle.sf_blocks.proofs.SideBySide.BesideProducts.{IsComposable-beside, IsComposable-second, AreBeside-products, AreParallel-products, matrix_product-beside, matrix_product-beside_stacked}

-- one row (a, b) times blocks
module _ (a b e f g h : Matrix) (ab : AreBeside a b) (efgh : AreBlocks e f g h) (x : IsComposable a e)
    (y : IsComposable b g) where
  pub AreParallel-left : AreParallel (matrix_product a e) (matrix_product b g)
  AreParallel-left = AreParallel-products a b e g ab x y efgh.left

  pub AreParallel-right : AreParallel (matrix_product a f) (matrix_product b h)
  AreParallel-right =
      AreParallel-products a b f h ab (IsComposable-second a e f x efgh.upper) (IsComposable-second b g h y efgh.lower)
      efgh.right

  pub matrix_product-block_row : IsMatrix a → IsMatrix b → IsMatrix e → IsMatrix f → IsMatrix g → IsMatrix h
      → matrix_product (beside a b) (blocks e f g h)
      ≡ beside (matrix_sum (matrix_product a e) (matrix_product b g))
      (matrix_sum (matrix_product a f) (matrix_product b h))
  matrix_product-block_row ma mb me mf mg mh =
      let af = IsComposable-second a e f x efgh.upper in
      let bh = IsComposable-second b g h y efgh.lower in
      matrix_product-beside_stacked a b (beside e f) (beside g h) ab (IsComposable-beside a e f x efgh.upper)
      (IsComposable-beside b g h y efgh.lower) (λ i. efgh.left i ++ efgh.right i) ma
      ∙ (λ i. matrix_sum (matrix_product-beside a e f x efgh.upper ma me mf i)
      (matrix_product-beside b g h y efgh.lower mb mg mh i))
      ∙ matrix_sum-beside (matrix_product a e) (matrix_product a f) (matrix_product b g) (matrix_product b h)
      x.positive (AreBeside-products a e f x efgh.upper) AreParallel-left AreParallel-right
      (IsMatrix-matrix_product a e x ma me) (IsMatrix-matrix_product a f af ma mf)
      (IsMatrix-matrix_product b g y mb mg) (IsMatrix-matrix_product b h bh mb mh)

-- a factor of one ring and target in the place of another
pub IsComposable-parallel : (a c e : Matrix) → a.ring ≡ c.ring → a.target ≡ c.target → IsComposable a e
    → IsComposable c e
IsComposable-parallel a c e rings targets x = record {
  positive = subst (λ (q : Ring). 0 < q.modulus) rings x.positive;
  rings = sym rings ∙ x.rings;
  degrees = x.degrees ∙ targets;
}

module _ (a b c d e f g h : Matrix) (abcd : AreBlocks a b c d) (efgh : AreBlocks e f g h) (x : IsComposable a e)
    (y : IsComposable b g) where
  pub IsComposable-lower_first : IsComposable c e
  IsComposable-lower_first = IsComposable-parallel a c e abcd.rings abcd.left x

  pub IsComposable-lower_second : IsComposable d g
  IsComposable-lower_second =
      IsComposable-parallel b d g (sym abcd.upper.rings ∙ abcd.rings ∙ abcd.lower.rings) abcd.right y

  pub matrix_product-blocks : IsMatrix a → IsMatrix b → IsMatrix c → IsMatrix d → IsMatrix e → IsMatrix f → IsMatrix g
      → IsMatrix h
      → matrix_product (blocks a b c d) (blocks e f g h)
      ≡ blocks (matrix_sum (matrix_product a e) (matrix_product b g))
      (matrix_sum (matrix_product a f) (matrix_product b h))
      (matrix_sum (matrix_product c e) (matrix_product d g)) (matrix_sum (matrix_product c f) (matrix_product d h))
  matrix_product-blocks ma mb mc md me mf mg mh =
      matrix_product-stacked (beside a b) (beside c d) (blocks e f g h) abcd.rings
      ∙ (λ i. stacked (matrix_product-block_row a b e f g h abcd.upper efgh x y ma mb me mf mg mh i)
      (matrix_product-block_row c d e f g h abcd.lower efgh IsComposable-lower_first IsComposable-lower_second mc md
      me mf mg mh i))
