-- Products of lists of matrices.
use Rattle.std.proofs.Common.{◌≡◌, refl, ◌<◌, List, [], ◌∷◌, ◌++◌, map, ℤ, ap, sym, ◌∙◌, subst}
use Rattle.sf_algebra.specs.Matrices.{Matrix, row_degrees}
use Rattle.sf_algebra.specs.MatrixOperations.{matrix_product, stacked, IsComposable}
use Rattle.sf_algebra.specs.Rings.{Ring}
use Rattle.sf_algebra.proofs.GradedMatrices.ProductLaws.{matrix_product-stacked}
use Rattle.sf_blocks.specs.BlockLists.{side_by_side, all_stacked, sum_of_all, products_of_pairs, IsFrom, AreFromOne, AreToOne, AreComposable, all_targets, all_sources}
use Rattle.sf_blocks.specs.MatrixSums.{matrix_sum, zero_matrix}
use Rattle.sf_blocks.specs.SideBySide.{beside}
use Rattle.sf_blocks.proofs.Lists.ListBlocks.{IsFrom-side_by_side, AreBeside-side_by_side, target-side_by_side, IsTo-all_stacked, row_degrees-all_stacked}
use Rattle.sf_blocks.proofs.MatrixSums.SumProducts.{matrix_product-zero_first, matrix_product-zero_second}
use Rattle.sf_blocks.proofs.SideBySide.BesideProducts.{matrix_product-beside, matrix_product-beside_stacked}

all_sources-composable : (ms ns : List Matrix) → AreComposable ms ns → all_sources ns ≡ all_targets ms
all_sources-composable [] [] h = refl
all_sources-composable [] (b ∷ ns) h = absurd h
all_sources-composable (a ∷ ms) [] h = absurd h
all_sources-composable (a ∷ ms) (b ∷ ns) h = λ i. h.0.degrees i ++ all_sources-composable ms ns h.1 i

module _ (ring : Ring) (source target : List ℤ) (positive : 0 < ring.modulus) where
  -- matrices side by side and a stack compose where they do one by one
  pub IsComposable-lists : (ms ns : List Matrix) → AreFromOne ring source ms → AreToOne ring target ns
      → AreComposable ms ns → IsComposable (side_by_side ring source ms) (all_stacked ring target ns)
  IsComposable-lists ms ns h k c =
      let m = IsFrom-side_by_side ring source ms h in
      let n = IsTo-all_stacked ring target ns k in
      record {
        positive = subst (λ (q : Ring). 0 < q.modulus) (sym m.ring_of) positive;
        rings = m.ring_of ∙ sym n.ring_of;
        degrees =
            row_degrees-all_stacked ring target ns
            ∙ all_sources-composable ms ns c
            ∙ sym (target-side_by_side ring source ms);
      }

  pub matrix_product-lists : (ms ns : List Matrix) → AreFromOne ring source ms → AreToOne ring target ns
      → AreComposable ms ns
      → matrix_product (side_by_side ring source ms) (all_stacked ring target ns)
      ≡ sum_of_all ring source target (products_of_pairs ms ns)
  matrix_product-lists [] [] h k c = matrix_product-zero_first ring source [] (zero_matrix ring [] target) positive
  matrix_product-lists [] (b ∷ ns) h k c = absurd c
  matrix_product-lists (a ∷ ms) [] h k c = absurd c
  matrix_product-lists (a ∷ ms) (b ∷ ns) h k c =
      matrix_product-beside_stacked a (side_by_side ring source ms) b (all_stacked ring target ns)
      (AreBeside-side_by_side ring source a ms h) c.0 (IsComposable-lists ms ns h.1 k.1 c.1)
      (k.0.target_of ∙ sym (IsTo-all_stacked ring target ns k.1).target_of) h.0.matrix
      ∙ ap (matrix_sum (matrix_product a b)) (matrix_product-lists ms ns h.1 k.1 c.1)

pub matrix_product-side_by_side : (ring : Ring) (source : List ℤ) (m : Matrix) (ms : List Matrix) → 0 < ring.modulus
    → IsFrom ring source m → AreFromOne ring m.target ms
    → matrix_product m (side_by_side ring m.target ms) ≡ side_by_side ring source (map (matrix_product m) ms)
matrix_product-side_by_side ring source m [] positive h k =
    matrix_product-zero_second ring m.target [] m (subst (λ (q : Ring). 0 < q.modulus) (sym h.ring_of) positive)
    ∙ (λ i. zero_matrix (h.ring_of i) (h.source_of i) [])
matrix_product-side_by_side ring source m (n ∷ ns) positive h k =
    matrix_product-beside m n (side_by_side ring m.target ns)
    (record {
      positive = subst (λ (q : Ring). 0 < q.modulus) (sym h.ring_of) positive;
      rings = h.ring_of
          ∙ sym k.0.ring_of;
      degrees = k.0.source_of;
    })
    (AreBeside-side_by_side ring m.target n ns k) h.matrix k.0.matrix (IsFrom-side_by_side ring m.target ns k.1).matrix
    ∙ ap (beside (matrix_product m n)) (matrix_product-side_by_side ring source m ns positive h k.1)

pub matrix_product-all_stacked : (ring : Ring) (ms : List Matrix) (n : Matrix) → 0 < ring.modulus
    → AreToOne ring (row_degrees n) ms
    → matrix_product (all_stacked ring (row_degrees n) ms) n
    ≡ all_stacked ring n.target (map (λ (m : Matrix). matrix_product m n) ms)
matrix_product-all_stacked ring [] n positive h = matrix_product-zero_first ring [] (row_degrees n) n positive
matrix_product-all_stacked ring (m ∷ ms) n positive h =
    matrix_product-stacked m (all_stacked ring (row_degrees n) ms) n
    (h.0.ring_of ∙ sym (IsTo-all_stacked ring (row_degrees n) ms h.1).ring_of)
    ∙ ap (stacked (matrix_product m n)) (matrix_product-all_stacked ring ms n positive h.1)
