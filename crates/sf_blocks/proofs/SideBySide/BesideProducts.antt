-- Products of matrices side by side.
use Rattle.std.proofs.Common.{◌≡◌, refl, ℕ, ◌+◌, ◌<◌, [], ◌∷◌, ◌++◌, length, ap, sym, ◌∙◌, subst}
use Rattle.sf_algebra.specs.Matrices.{Matrix, row_degrees, IsMatrix}
use Rattle.sf_algebra.specs.MatrixOperations.{row_at, moved, row_combination, matrix_product, stacked, IsComposable}
use Rattle.sf_algebra.specs.VectorOperations.{row_sum}
use Rattle.sf_algebra.specs.Vectors.{Vector, entry, IsVector}
use Rattle.sf_algebra.proofs.GradedMatrices.MatrixProducts.{IsMatrix-matrix_product, row_degrees-matrix_product}
use Rattle.sf_algebra.proofs.GradedMatrices.MatrixRows.{StandsWithin, IsWithin-matrix_row}
use Rattle.sf_algebra.proofs.Vectors.Rows.{row_at-matrix_product}
use Rattle.sf_algebra.proofs.Vectors.StackedRows.{row_combination-stacked}
use Rattle.std.proofs.lemmas.List.{length-map}
use Rattle.sf_blocks.specs.MatrixSums.{AreParallel, matrix_sum}
use Rattle.sf_blocks.specs.SideBySide.{AreBeside, beside}
use Rattle.sf_blocks.proofs.MatrixSums.RowsByRows.{same_by_rows}
use Rattle.sf_blocks.proofs.MatrixSums.SumGroups.{row_degrees-matrix_sum, row_at-matrix_sum}
use Rattle.sf_blocks.proofs.SideBySide.Beside.{row_degrees-beside, row_at-beside, entry-beside_first, entry-beside_last, IsMatrix-beside, same_beside}
use Rattle.sf_blocks.proofs.SideBySide.PairEntries.{entry-row_combination_same}

-- a matrix times two side by side
module _ (a b c : Matrix) (k : IsComposable a b) (h : AreBeside b c) where
  pub IsComposable-beside : IsComposable a (beside b c)
  IsComposable-beside = record { positive = k.positive; rings = k.rings; degrees = row_degrees-beside b c h ∙ k.degrees }

  pub IsComposable-second : IsComposable a c
  IsComposable-second = record { positive = k.positive; rings = k.rings ∙ h.rings; degrees = sym h.degrees ∙ k.degrees }

  pub AreBeside-products : AreBeside (matrix_product a b) (matrix_product a c)
  AreBeside-products = record {
    rings = refl;
    degrees = row_degrees-matrix_product a b ∙ sym (row_degrees-matrix_product a c);
  }

  pub matrix_product-beside : IsMatrix a → IsMatrix b → IsMatrix c
      → matrix_product a (beside b c) ≡ beside (matrix_product a b) (matrix_product a c)
  matrix_product-beside ma mb mc =
      let ring = a.ring in
      let m = beside b c in
      let row : (x : Matrix) (i j : ℕ) → entry j (row_at (matrix_product a x).rows i)
      ≡ entry j (row_combination ring x.rows (row_at a.rows i)) =
      λ x i j. ap (entry j) (row_at-matrix_product ring k.positive a x i refl) in
      same_beside (matrix_product a b) (matrix_product a c) AreBeside-products (IsMatrix-matrix_product a b k ma mb)
      (IsMatrix-matrix_product a c IsComposable-second ma mc) (matrix_product a m)
      (IsMatrix-matrix_product a m IsComposable-beside ma (IsMatrix-beside b c h mb mc)) refl refl
      (row_degrees-matrix_product a m ∙ sym (row_degrees-matrix_product a b))
      (λ i j before.
      row m i j
      ∙ entry-row_combination_same ring k.positive m.rows b.rows j j (λ l. entry-beside_first b c h l j before)
      (row_at a.rows i)
      ∙ sym (row b i j))
      (λ i j.
      row m i (length b.target + j)
      ∙ entry-row_combination_same ring k.positive m.rows c.rows (length b.target + j) j
      (λ l. entry-beside_last b c h mb l j) (row_at a.rows i)
      ∙ sym (row c i j))

-- a combination of the rows of two side by side
pub row_combination-beside : (a b : Matrix) → 0 < a.ring.modulus → AreBeside a b → IsMatrix a → IsMatrix b
    → (c : Vector) → IsVector a.ring (row_degrees a) c
    → row_combination a.ring (beside a b).rows c.terms
    ≡ row_combination a.ring a.rows c.terms ++ moved (length a.target) (row_combination a.ring b.rows c.terms)
row_combination-beside a b positive h ma mb c vector =
    let m : Matrix = record { ring = a.ring; target = row_degrees a; rows = c ∷ [] } in
    ap (λ (n : Matrix). row_at n.rows 0)
    (matrix_product-beside m a b (record { positive = positive; rings = refl; degrees = refl }) h (vector, tt) ma mb)

-- two side by side times a stack
module _ (a b c d : Matrix) (h : AreBeside a b) (x : IsComposable a c) (y : IsComposable b d)
    (targets : c.target ≡ d.target) where
  pub AreParallel-products : AreParallel (matrix_product a c) (matrix_product b d)
  AreParallel-products = record {
    rings = h.rings;
    targets = targets;
    degrees = row_degrees-matrix_product a c ∙ h.degrees ∙ sym (row_degrees-matrix_product b d);
  }

  pub matrix_product-beside_stacked : IsMatrix a
      → matrix_product (beside a b) (stacked c d) ≡ matrix_sum (matrix_product a c) (matrix_product b d)
  matrix_product-beside_stacked ma =
      let ring = a.ring in
      let m = beside a b in
      let s = stacked c d in
      let size : length a.target ≡ length c.rows = ap length (sym x.degrees)
      ∙ length-map c.rows (λ (v : Vector). v.degree) in
      same_by_rows (matrix_product m s) (matrix_sum (matrix_product a c) (matrix_product b d)) refl refl
      (row_degrees-matrix_product m s
      ∙ row_degrees-beside a b h
      ∙ sym (row_degrees-matrix_sum (matrix_product a c) (matrix_product b d) AreParallel-products
      ∙ row_degrees-matrix_product a c))
      (λ i.
      row_at-matrix_product ring x.positive m s i refl
      ∙ ap (row_combination ring s.rows) (row_at-beside a b h i)
      ∙ ap (λ n. row_combination ring s.rows (row_at a.rows i ++ moved n (row_at b.rows i))) size
      ∙ row_combination-stacked ring x.positive c.rows d.rows (row_at a.rows i) (row_at b.rows i)
      (subst (λ n. StandsWithin n (row_at a.rows i)) size (IsWithin-matrix_row ring a.target a.rows ma i))
      ∙ (λ l. row_sum ring (sym (row_at-matrix_product ring x.positive a c i refl) l)
      (sym (row_at-matrix_product ring x.positive b d i (sym h.rings)) l))
      ∙ sym (row_at-matrix_sum (matrix_product a c) (matrix_product b d) AreParallel-products i))
