-- Products of sums and of zeros.
use Rattle.std.proofs.Common.{◌≡◌, refl, ℕ, ◌<◌, List, [], ap, sym, ◌∙◌, ℤ}
use Rattle.sf_algebra.specs.Matrices.{Matrix, row_degrees}
use Rattle.sf_algebra.specs.MatrixOperations.{row_at, row_combination, matrix_product}
use Rattle.sf_algebra.specs.Multiples.{place_product, combination}
use Rattle.sf_algebra.specs.Rings.{Ring}
use Rattle.sf_algebra.specs.Terms.{Term}
use Rattle.sf_algebra.specs.VectorOperations.{row_sum}
use Rattle.sf_algebra.specs.Vectors.{Place, Vector, place_cmp}
use Rattle.sf_algebra.proofs.GradedMatrices.MatrixProducts.{row_degrees-matrix_product}
use Rattle.sf_algebra.proofs.GradedMatrices.ProductParts.{combination-no_rows}
use Rattle.sf_algebra.proofs.Multiplying.Keys.{place_keys}
use Rattle.sf_algebra.proofs.Vectors.Rows.{row_at-matrix_product, row_combination-add, row_combination-add_rows, row_combination-nil}
use Rattle.sf_blocks.specs.MatrixSums.{AreParallel, matrix_sum, zero_matrix}
use Rattle.sf_blocks.proofs.MatrixSums.SumGroups.{row_at-matrix_sum, row_degrees-matrix_sum, row_at-zero_matrix, row_degrees-zero_matrix, same_zero}
use Rattle.sf_blocks.proofs.MatrixSums.RowsByRows.{same_by_rows}

-- products with one matrix, and of one matrix, are parallel
pub AreParallel-product_first : (a b c : Matrix) → AreParallel a b
    → AreParallel (matrix_product a c) (matrix_product b c)
AreParallel-product_first a b c h = record {
  rings = h.rings;
  targets = refl;
  degrees = row_degrees-matrix_product a c ∙ h.degrees ∙ sym (row_degrees-matrix_product b c);
}

pub AreParallel-product_second : (a b c : Matrix) → AreParallel b c
    → AreParallel (matrix_product a b) (matrix_product a c)
AreParallel-product_second a b c h = record {
  rings = refl;
  targets = h.targets;
  degrees = row_degrees-matrix_product a b ∙ sym (row_degrees-matrix_product a c);
}

pub matrix_product-sum_first : (a b c : Matrix) → 0 < a.ring.modulus → AreParallel a b
    → matrix_product (matrix_sum a b) c ≡ matrix_sum (matrix_product a c) (matrix_product b c)
matrix_product-sum_first a b c positive h =
    let ring = a.ring in
    let s = matrix_sum a b in
    let k = AreParallel-product_first a b c h in
    same_by_rows (matrix_product s c) (matrix_sum (matrix_product a c) (matrix_product b c)) refl refl
    (row_degrees-matrix_product s c
    ∙ row_degrees-matrix_sum a b h
    ∙ sym (row_degrees-matrix_sum (matrix_product a c) (matrix_product b c) k ∙ row_degrees-matrix_product a c))
    (λ i.
    row_at-matrix_product ring positive s c i refl
    ∙ ap (row_combination ring c.rows) (row_at-matrix_sum a b h i)
    ∙ row_combination-add ring positive c.rows (row_at a.rows i) (row_at b.rows i)
    ∙ (λ l. row_sum ring (sym (row_at-matrix_product ring positive a c i refl) l)
    (sym (row_at-matrix_product ring positive b c i (sym h.rings)) l))
    ∙ sym (row_at-matrix_sum (matrix_product a c) (matrix_product b c) k i))

pub matrix_product-sum_second : (a b c : Matrix) → 0 < a.ring.modulus → a.ring ≡ b.ring → AreParallel b c
    → matrix_product a (matrix_sum b c) ≡ matrix_sum (matrix_product a b) (matrix_product a c)
matrix_product-sum_second a b c positive rings h =
    let ring = a.ring in
    let s = matrix_sum b c in
    let k = AreParallel-product_second a b c h in
    same_by_rows (matrix_product a s) (matrix_sum (matrix_product a b) (matrix_product a c)) refl refl
    (row_degrees-matrix_product a s
    ∙ sym (row_degrees-matrix_sum (matrix_product a b) (matrix_product a c) k ∙ row_degrees-matrix_product a b))
    (λ i.
    row_at-matrix_product ring positive a s i refl
    ∙ row_combination-add_rows ring positive s.rows b.rows c.rows
    (λ l. row_at-matrix_sum b c h l ∙ ap (λ q. row_sum q (row_at b.rows l) (row_at c.rows l)) (sym rings))
    (row_at a.rows i)
    ∙ (λ l. row_sum ring (sym (row_at-matrix_product ring positive a b i refl) l)
    (sym (row_at-matrix_product ring positive a c i refl) l))
    ∙ sym (row_at-matrix_sum (matrix_product a b) (matrix_product a c) k i))

-- combinations of rows without terms
pub row_combination-zeros : (ring : Ring) → 0 < ring.modulus → (rows : List Vector)
    → ((i : ℕ) → row_at rows i ≡ []) → (c : List (Term Place)) → row_combination ring rows c ≡ []
row_combination-zeros ring positive rows none c =
    (λ i. combination (place_cmp ring.weights) place_product ring.modulus (λ k. k.monomial) (λ k. none k.position i) c)
    ∙ combination-no_rows (place_keys ring.weights) ring.modulus positive (λ k. k.monomial) c

pub matrix_product-zero_first : (ring : Ring) (source between : List ℤ) (m : Matrix) → 0 < ring.modulus
    → matrix_product (zero_matrix ring source between) m ≡ zero_matrix ring source m.target
matrix_product-zero_first ring source between m positive =
    let z = zero_matrix ring source between in
    same_zero (matrix_product z m)
    (λ i.
    row_at-matrix_product ring positive z m i refl
    ∙ ap (row_combination ring m.rows) (row_at-zero_matrix ring source between i)
    ∙ row_combination-nil ring positive m.rows)
    ∙ ap (λ ds. zero_matrix ring ds m.target)
    (row_degrees-matrix_product z m ∙ row_degrees-zero_matrix ring source between)

pub matrix_product-zero_second : (ring : Ring) (between target : List ℤ) (m : Matrix) → 0 < m.ring.modulus
    → matrix_product m (zero_matrix ring between target) ≡ zero_matrix m.ring (row_degrees m) target
matrix_product-zero_second ring between target m positive =
    let z = zero_matrix ring between target in
    same_zero (matrix_product m z)
    (λ i.
    row_at-matrix_product m.ring positive m z i refl
    ∙ row_combination-zeros m.ring positive z.rows (row_at-zero_matrix ring between target) (row_at m.rows i))
    ∙ ap (λ ds. zero_matrix m.ring ds target) (row_degrees-matrix_product m z)
