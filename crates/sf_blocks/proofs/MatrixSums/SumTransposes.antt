-- Transposes, negatives and parts of sums, and transposes of zeros: by entries.
use Rattle.std.proofs.Common.{◌≡◌, refl, ℕ, ◌+◌, ◌<◌, List, [], ap, sym, ◌∙◌, ℤ, map, neg_ℤ, slice_range, inl, inr}
use Rattle.std.proofs.lemmas.Bool.{cases_lt}
use Rattle.sf_algebra.specs.Matrices.{Matrix, IsMatrix}
use Rattle.sf_algebra.specs.MatrixOperations.{row_at, part, transposed}
use Rattle.sf_algebra.specs.Polynomials.{polynomial_sum}
use Rattle.sf_algebra.specs.Rings.{Ring}
use Rattle.sf_algebra.specs.Sums.{add, normal}
use Rattle.sf_algebra.specs.Vectors.{entry}
use Rattle.sf_algebra.proofs.GradedMatrices.MatrixRows.{same_matrices}
use Rattle.sf_algebra.proofs.GradedMatrices.Parts.{IsMatrix-part, row_degrees-part, entry-part, entry-part_past_row, entry-part_past_column}
use Rattle.sf_algebra.proofs.GradedMatrices.Transposes.{IsMatrix-transposed, entry-transposed, row_degrees-transposed}
use Rattle.sf_blocks.specs.MatrixSums.{AreParallel, matrix_sum, zero_matrix}
use Rattle.sf_blocks.proofs.MatrixSums.SumGroups.{IsMatrix-matrix_sum, row_degrees-matrix_sum, entry-matrix_sum, IsMatrix-zero_matrix, row_at-zero_matrix, row_degrees-zero_matrix}

polynomial_sum-none : (ring : Ring) → polynomial_sum ring [] [] ≡ []
unfolding add normal
polynomial_sum-none ring = refl

module _ (a b : Matrix) (positive : 0 < a.ring.modulus) (h : AreParallel a b) (k : IsMatrix a) (l : IsMatrix b) where
  pub AreParallel-transposed : AreParallel (transposed a) (transposed b)
  AreParallel-transposed = record {
    rings = h.rings;
    targets = ap (map neg_ℤ) h.degrees;
    degrees = row_degrees-transposed a ∙ ap (map neg_ℤ) h.targets ∙ sym (row_degrees-transposed b);
  }

  pub transposed-sum : transposed (matrix_sum a b) ≡ matrix_sum (transposed a) (transposed b)
  transposed-sum =
      let s = matrix_sum a b in
      let m = IsMatrix-matrix_sum a b h positive k l in
      let t = AreParallel-transposed in
      same_matrices (transposed s) (matrix_sum (transposed a) (transposed b)) (IsMatrix-transposed s m)
      (IsMatrix-matrix_sum (transposed a) (transposed b) t positive (IsMatrix-transposed a k) (IsMatrix-transposed b l))
      refl
      (ap (map neg_ℤ) (row_degrees-matrix_sum a b h))
      (row_degrees-transposed s ∙ sym (row_degrees-matrix_sum (transposed a) (transposed b) t ∙ row_degrees-transposed a))
      (λ i j.
      entry-transposed s m j i
      ∙ entry-matrix_sum a b h positive j i
      ∙ (λ n. polynomial_sum a.ring (sym (entry-transposed a k j i) n) (sym (entry-transposed b l j i) n))
      ∙ sym (entry-matrix_sum (transposed a) (transposed b) t positive i j))

  module _ (r0 r1 c0 c1 : ℕ) where
    pub AreParallel-part : AreParallel (part r0 r1 c0 c1 a) (part r0 r1 c0 c1 b)
    AreParallel-part = record {
      rings = h.rings;
      targets = ap (λ ds. slice_range ds c0 c1) h.targets;
      degrees =
          row_degrees-part r0 r1 c0 c1 a
          ∙ ap (λ ds. slice_range ds r0 r1) h.degrees
          ∙ sym (row_degrees-part r0 r1 c0 c1 b);
    }

    pub part-sum : part r0 r1 c0 c1 (matrix_sum a b) ≡ matrix_sum (part r0 r1 c0 c1 a) (part r0 r1 c0 c1 b)
    part-sum =
        let s = matrix_sum a b in
        let m = IsMatrix-matrix_sum a b h positive k l in
        let pa = part r0 r1 c0 c1 a in
        let pb = part r0 r1 c0 c1 b in
        let q = AreParallel-part in
        let none : (i j : ℕ) → entry j (row_at pa.rows i) ≡ [] → entry j (row_at pb.rows i) ≡ []
        → entry j (row_at (matrix_sum pa pb).rows i) ≡ [] =
        λ i j x y. entry-matrix_sum pa pb q positive i j ∙ (λ n. polynomial_sum a.ring (x n) (y n))
        ∙ polynomial_sum-none a.ring in
        same_matrices (part r0 r1 c0 c1 s) (matrix_sum pa pb) (IsMatrix-part r0 r1 c0 c1 s m)
        (IsMatrix-matrix_sum pa pb q positive (IsMatrix-part r0 r1 c0 c1 a k) (IsMatrix-part r0 r1 c0 c1 b l)) refl refl
        (row_degrees-part r0 r1 c0 c1 s
        ∙ ap (λ ds. slice_range ds r0 r1) (row_degrees-matrix_sum a b h)
        ∙ sym (row_degrees-matrix_sum pa pb q ∙ row_degrees-part r0 r1 c0 c1 a))
        (λ i j. elim (cases_lt (r0 + i) r1) [
          | inl row ↦ elim (cases_lt (c0 + j) c1) [
            | inl column ↦
                entry-part r0 r1 c0 c1 s i j row column
                ∙ entry-matrix_sum a b h positive (r0 + i) (c0 + j)
                ∙ (λ n. polynomial_sum a.ring (sym (entry-part r0 r1 c0 c1 a i j row column) n)
                (sym (entry-part r0 r1 c0 c1 b i j row column) n))
                ∙ sym (entry-matrix_sum pa pb q positive i j)
            | inr past ↦ entry-part_past_column r0 r1 c0 c1 s i j past
                ∙ sym (none i j (entry-part_past_column r0 r1 c0 c1 a i j past)
                (entry-part_past_column r0 r1 c0 c1 b i j past))
          ]
          | inr past ↦ entry-part_past_row r0 r1 c0 c1 s i j past
              ∙ sym (none i j (entry-part_past_row r0 r1 c0 c1 a i j past) (entry-part_past_row r0 r1 c0 c1 b i j past))
        ])

pub transposed-zero : (ring : Ring) (source target : List ℤ)
    → transposed (zero_matrix ring source target) ≡ zero_matrix ring (map neg_ℤ target) (map neg_ℤ source)
transposed-zero ring source target =
    let z = zero_matrix ring source target in
    let m = IsMatrix-zero_matrix ring source target in
    let n = zero_matrix ring (map neg_ℤ target) (map neg_ℤ source) in
    same_matrices (transposed z) n (IsMatrix-transposed z m)
    (IsMatrix-zero_matrix ring (map neg_ℤ target) (map neg_ℤ source)) refl
    (ap (map neg_ℤ) (row_degrees-zero_matrix ring source target))
    (row_degrees-transposed z ∙ sym (row_degrees-zero_matrix ring (map neg_ℤ target) (map neg_ℤ source)))
    (λ i j.
    entry-transposed z m j i
    ∙ ap (entry i) (row_at-zero_matrix ring source target j)
    ∙ sym (ap (entry j) (row_at-zero_matrix ring (map neg_ℤ target) (map neg_ℤ source) i)))
