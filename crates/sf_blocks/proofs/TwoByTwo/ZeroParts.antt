-- What is zero: by rows; and sums, products, stacks and matrices side by side with zeros.
use Rattle.std.proofs.Common.{◌≡◌, ◌↔◌, refl, ℕ, zero, suc, ◌+◌, ◌<◌, List, [], ◌∷◌, ◌++◌, length, ℤ, ap, sym, ◌∙◌, inl, inr}
use Rattle.std.proofs.lemmas.Bool.{cases_lt}
use Rattle.sf_algebra.specs.Matrices.{Matrix, row_degrees, IsMatrix}
use Rattle.sf_algebra.specs.MatrixOperations.{row_at, moved, row_combination, matrix_product, stacked}
use Rattle.sf_algebra.specs.Rings.{Ring}
use Rattle.sf_algebra.specs.Terms.{Term}
use Rattle.sf_algebra.specs.VectorOperations.{row_sum}
use Rattle.sf_algebra.specs.Vectors.{Place, Vector}
use Rattle.sf_algebra.proofs.GradedMatrices.MatrixRows.{IsCanonical-matrix_row}
use Rattle.sf_algebra.proofs.Vectors.RowSums.{row_sum-nil, row_sum-nil_first}
use Rattle.sf_algebra.proofs.Vectors.Rows.{row_at-append_first, row_at-append_second, row_at-past, row_at-matrix_product, row_combination-nil}
use Rattle.sf_blocks.specs.MatrixSums.{AreParallel, matrix_sum, zero_matrix, IsZeroMatrix}
use Rattle.sf_blocks.specs.SideBySide.{AreBeside, beside}
use Rattle.sf_blocks.proofs.MatrixSums.RowsByRows.{same_by_rows}
use Rattle.sf_blocks.proofs.MatrixSums.SumGroups.{row_degrees-matrix_sum, row_at-matrix_sum, row_sum-none, IsMatrix-parallel, row_at-zero_matrix, same_zero}
use Rattle.sf_blocks.proofs.MatrixSums.SumProducts.{row_combination-zeros}
use Rattle.sf_blocks.proofs.SideBySide.Beside.{row_at-beside}

-- a zero has no row with a term
pub row_at-zero : (m : Matrix) → IsZeroMatrix m → (i : ℕ) → row_at m.rows i ≡ []
row_at-zero m h i =
    ap (λ (n : Matrix). row_at n.rows i) h ∙ row_at-zero_matrix m.ring (row_degrees m) m.target i

pub IsZeroMatrix-zero_matrix : (ring : Ring) (source target : List ℤ) → IsZeroMatrix (zero_matrix ring source target)
IsZeroMatrix-zero_matrix ring source target =
    same_zero (zero_matrix ring source target) (row_at-zero_matrix ring source target)

module _ (a b : Matrix) (h : AreParallel a b) where
  pub IsZeroMatrix-sum : IsZeroMatrix a → IsZeroMatrix b → IsZeroMatrix (matrix_sum a b)
  IsZeroMatrix-sum k l =
      same_zero (matrix_sum a b)
      (λ i. row_at-matrix_sum a b h i ∙ (λ n. row_sum a.ring (row_at-zero a k i n) (row_at-zero b l i n))
      ∙ row_sum-none a.ring)

  module _ (positive : 0 < a.ring.modulus) where
    pub matrix_sum-zero_second : IsMatrix a → IsZeroMatrix b → matrix_sum a b ≡ a
    matrix_sum-zero_second k l =
        same_by_rows (matrix_sum a b) a refl refl (row_degrees-matrix_sum a b h)
        (λ i.
        row_at-matrix_sum a b h i
        ∙ ap (row_sum a.ring (row_at a.rows i)) (row_at-zero b l i)
        ∙ row_sum-nil a.ring positive (row_at a.rows i) (IsCanonical-matrix_row a.ring a.target a.rows k i))

    pub matrix_sum-zero_first : IsMatrix b → IsZeroMatrix a → matrix_sum a b ≡ b
    matrix_sum-zero_first k l =
        same_by_rows (matrix_sum a b) b h.rings h.targets (row_degrees-matrix_sum a b h ∙ h.degrees)
        (λ i.
        row_at-matrix_sum a b h i
        ∙ ap (λ ts. row_sum a.ring ts (row_at b.rows i)) (row_at-zero a l i)
        ∙ row_sum-nil_first a.ring positive (row_at b.rows i)
        (IsCanonical-matrix_row a.ring a.target b.rows (IsMatrix-parallel a b h k) i))

module _ (a b : Matrix) (positive : 0 < a.ring.modulus) where
  pub IsZeroMatrix-product_first : IsZeroMatrix a → IsZeroMatrix (matrix_product a b)
  IsZeroMatrix-product_first h =
      same_zero (matrix_product a b)
      (λ i.
      row_at-matrix_product a.ring positive a b i refl
      ∙ ap (row_combination a.ring b.rows) (row_at-zero a h i)
      ∙ row_combination-nil a.ring positive b.rows)

  pub IsZeroMatrix-product_second : IsZeroMatrix b → IsZeroMatrix (matrix_product a b)
  IsZeroMatrix-product_second h =
      same_zero (matrix_product a b)
      (λ i.
      row_at-matrix_product a.ring positive a b i refl
      ∙ row_combination-zeros a.ring positive b.rows (row_at-zero b h) (row_at a.rows i))

no_terms_first : (us vs : List (Term Place)) → us ++ vs ≡ [] → us ≡ []
no_terms_first [] vs e = refl
no_terms_first (u ∷ us) vs e = cc

no_terms_moved : (n : ℕ) (us vs : List (Term Place)) → us ++ moved n vs ≡ [] → vs ≡ []
no_terms_moved n [] [] e = refl
no_terms_moved n [] (v ∷ vs) e = cc
no_terms_moved n (u ∷ us) vs e = cc

pub IsZeroMatrix-beside : (a b : Matrix) → AreBeside a b → IsZeroMatrix (beside a b) ↔ (IsZeroMatrix a × IsZeroMatrix b)
IsZeroMatrix-beside a b h = (
  λ z. let none : (i : ℕ) → row_at a.rows i ++ moved (length a.target) (row_at b.rows i)
      ≡ [] = λ i. sym (row_at-beside a b h i) ∙ row_at-zero (beside a b) z i in (
        same_zero a (λ i. no_terms_first (row_at a.rows i) (moved (length a.target) (row_at b.rows i)) (none i)),
        same_zero b (λ i. no_terms_moved (length a.target) (row_at a.rows i) (row_at b.rows i) (none i)),
      ),
  λ z. same_zero (beside a b)
      (λ i. row_at-beside a b h i ∙ (λ n. row_at-zero a z.0 i n ++ moved (length a.target) (row_at-zero b z.1 i n))),
)

no_rows : (us vs : List Vector) → ((i : ℕ) → row_at us i ≡ []) → ((i : ℕ) → row_at vs i ≡ []) → (i : ℕ)
    → row_at (us ++ vs) i ≡ []
no_rows [] vs h k i = k i
no_rows (u ∷ us) vs h k zero = h zero
no_rows (u ∷ us) vs h k (suc i) = no_rows us vs (λ j. h (suc j)) k i

pub IsZeroMatrix-stacked : (a b : Matrix) → IsZeroMatrix (stacked a b) ↔ (IsZeroMatrix a × IsZeroMatrix b)
IsZeroMatrix-stacked a b = (
  λ z. (
    same_zero a (λ i. elim (cases_lt i (length a.rows)) [
      | inl inside ↦ sym (row_at-append_first a.rows b.rows i inside) ∙ row_at-zero (stacked a b) z i
      | inr past ↦ row_at-past a.rows i past
    ]),
    same_zero b (λ i. sym (row_at-append_second a.rows b.rows i) ∙ row_at-zero (stacked a b) z (length a.rows + i)),
  ),
  λ z. same_zero (stacked a b) (no_rows a.rows b.rows (row_at-zero a z.0) (row_at-zero b z.1)),
)
