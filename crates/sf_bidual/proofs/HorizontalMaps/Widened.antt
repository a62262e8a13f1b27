-- Products with matrices that have columns of zeros behind them, or zeros above them.
use Rattle.std.proofs.Common.{◌≡◌, ◌<◌, List, ◌++◌, refl, sym, ◌∙◌, ap, subst, ℤ}
use Rattle.sf_algebra.specs.Matrices.{Matrix, row_degrees, IsMatrix}
use Rattle.sf_algebra.specs.MatrixOperations.{matrix_product, stacked, IsComposable}
use Rattle.sf_algebra.specs.Rings.{Ring}
use Rattle.sf_algebra.proofs.GradedMatrices.MatrixProducts.{IsMatrix-matrix_product, row_degrees-matrix_product}
use Rattle.sf_blocks.specs.MatrixSums.{zero_matrix}
use Rattle.sf_blocks.specs.SideBySide.{AreBeside, AreTriangle, beside, triangle}
use Rattle.sf_blocks.proofs.MatrixSums.SumGroups.{IsMatrix-zero_matrix, row_degrees-zero_matrix}
use Rattle.sf_blocks.proofs.MatrixSums.SumProducts.{matrix_product-zero_second}
use Rattle.sf_blocks.proofs.SideBySide.Beside.{IsMatrix-beside, row_degrees-beside}
use Rattle.sf_blocks.proofs.SideBySide.BesideProducts.{AreParallel-products, matrix_product-beside, matrix_product-beside_stacked}
use Rattle.sf_blocks.proofs.TwoByTwo.ZeroParts.{IsZeroMatrix-product_first, IsZeroMatrix-product_second, IsZeroMatrix-zero_matrix, matrix_sum-zero_first, matrix_sum-zero_second}
use Rattle.sf_bidual.specs.CartanEilenberg.{widened}

module _ (m : Matrix) (degrees : List ℤ) where
  abbrev zeros : Matrix
  zeros = zero_matrix m.ring (row_degrees m) degrees

  pub AreBeside-widened : AreBeside m zeros
  AreBeside-widened = record { rings = refl; degrees = sym (row_degrees-zero_matrix m.ring (row_degrees m) degrees) }

  pub row_degrees-widened : row_degrees (widened m degrees) ≡ row_degrees m
  row_degrees-widened = row_degrees-beside m zeros AreBeside-widened

  pub IsMatrix-widened : IsMatrix m → IsMatrix (widened m degrees)
  IsMatrix-widened matrix =
      IsMatrix-beside m zeros AreBeside-widened matrix (IsMatrix-zero_matrix m.ring (row_degrees m) degrees)

  -- m (v, 0) = (m v, 0)
  pub product-widened : (k : Matrix) → IsComposable k m → IsMatrix k → IsMatrix m
      → matrix_product k (widened m degrees) ≡ widened (matrix_product k m) degrees
  product-widened k h mk mm =
      matrix_product-beside k m zeros h AreBeside-widened mk mm (IsMatrix-zero_matrix m.ring (row_degrees m) degrees)
      ∙ (λ i. beside (matrix_product k m) ((matrix_product-zero_second m.ring (row_degrees m) degrees k h.positive
      ∙ ap (λ ds. zero_matrix k.ring ds degrees) (sym (row_degrees-matrix_product k m))) i))

-- (v, 0) times the stack of a and s is v a
pub widened-stacked : (v a s : Matrix) (degrees : List ℤ) → degrees ≡ row_degrees s → IsComposable v a
    → a.ring ≡ s.ring → a.target ≡ s.target → IsMatrix v → IsMatrix a
    → matrix_product (widened v degrees) (stacked a s) ≡ matrix_product v a
widened-stacked v a s degrees same h rings targets mv ma =
    let zeros = zero_matrix v.ring (row_degrees v) degrees in
    let behind : IsComposable zeros s =
    record { positive = h.positive; rings = h.rings ∙ rings; degrees = sym same } in
    let together = AreBeside-widened v degrees in
    matrix_product-beside_stacked v zeros a s together h behind targets mv
    ∙ matrix_sum-zero_second (matrix_product v a) (matrix_product zeros s)
    (AreParallel-products v zeros a s together h behind targets) h.positive (IsMatrix-matrix_product v a h mv ma)
    (IsZeroMatrix-product_first zeros s h.positive (IsZeroMatrix-zero_matrix v.ring (row_degrees v) degrees))

-- (v, 0) times the triangle of a, l and b is (v a, 0)
pub widened-triangle : (v a l b : Matrix) (degrees : List ℤ) → degrees ≡ row_degrees l → AreTriangle a l b
    → IsComposable v a → IsMatrix v → IsMatrix a
    → matrix_product (widened v degrees) (triangle a l b) ≡ widened (matrix_product v a) b.target
widened-triangle v a l b degrees same k h mv ma =
    let upper : Matrix = widened a b.target in
    let lower : Matrix = beside l b in
    widened-stacked v upper lower degrees (same ∙ sym (row_degrees-beside l b k.lower))
    (record { positive = h.positive; rings = h.rings; degrees = row_degrees-widened a b.target ∙ h.degrees }) k.rings
    (ap (λ ds. ds ++ b.target) k.targets) mv (IsMatrix-widened a b.target ma)
    ∙ product-widened a b.target v h mv ma

-- (p, q) times zeros above u is q u
pub product-below : (p q u : Matrix) (ring : Ring) (source target : List ℤ) → AreBeside p q → p.ring ≡ ring
    → p.target ≡ source → target ≡ u.target → IsComposable q u → IsMatrix p → IsMatrix q → IsMatrix u
    → matrix_product (beside p q) (stacked (zero_matrix ring source target) u) ≡ matrix_product q u
product-below p q u ring source target h rings sources targets k mp mq mu =
    let zeros = zero_matrix ring source target in
    let positive : 0 < p.ring.modulus = subst (λ (r : Ring). 0 < r.modulus) (sym h.rings) k.positive in
    let above : IsComposable p zeros = record {
      positive = positive;
      rings = rings;
      degrees = row_degrees-zero_matrix ring source target ∙ sym sources;
    } in
    matrix_product-beside_stacked p q zeros u h above k targets mp
    ∙ matrix_sum-zero_first (matrix_product p zeros) (matrix_product q u)
    (AreParallel-products p q zeros u h above k targets) positive (IsMatrix-matrix_product q u k mq mu)
    (IsZeroMatrix-product_second p zeros positive (IsZeroMatrix-zero_matrix ring source target))
