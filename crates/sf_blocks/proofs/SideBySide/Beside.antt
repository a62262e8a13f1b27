-- Matrices side by side: that they are a matrix, its entries and its columns.
use Rattle.std.proofs.Common.{◌≡◌, refl, ℕ, ◌+◌, ◌-◌, ◌<◌, ◌≤◌, ◌++◌, length, ap, sym, ◌∙◌, subst, inl, inr, arith}
use Rattle.std.specs.List.{AllByRecursion}
use Rattle.std.proofs.lemmas.Bool.{cases_lt}
use Rattle.std.proofs.lemmas.List.{length-map}
use Rattle.sf_algebra.specs.Matrices.{Matrix, row_degrees, IsMatrix}
use Rattle.sf_algebra.specs.MatrixOperations.{row_at, moved, part, part_terms}
use Rattle.sf_algebra.specs.Vectors.{entry, IsVector}
use Rattle.sf_algebra.proofs.GradedMatrices.MatrixRows.{with_terms, IsWithin-matrix_row, same_matrices}
use Rattle.sf_algebra.proofs.GradedMatrices.Parts.{row_degrees-part}
use Rattle.sf_algebra.proofs.GradedMatrices.Ranges.{slice_range-whole, slice_range-first, slice_range-second}
use Rattle.sf_algebra.proofs.Vectors.Rows.{row_at-map}
use Rattle.sf_groebner.proofs.PartsOfBases.PairedVectors.{IsVector-pair, part_terms-pair_first, part_terms-pair_last}
use Rattle.sf_blocks.specs.SideBySide.{AreBeside, beside}
use Rattle.sf_blocks.proofs.MatrixSums.RowsByRows.{same_by_rows, length-degrees, degrees-row_by_row, row_at-row_by_row, AllByRecursion-row_by_row}
use Rattle.sf_blocks.proofs.SideBySide.PairEntries.{entry-pair_first, entry-pair_last}

-- all rows, in some columns
module _ (k c0 c1 : ℕ) (m : Matrix) (all : length m.rows ≤ k) where
  pub row_at-columns : (i : ℕ) → row_at (part 0 k c0 c1 m).rows i ≡ part_terms c0 c1 (row_at m.rows i)
  row_at-columns i =
      ap (λ vs. row_at (with_terms (part_terms c0 c1) vs) i) (slice_range-whole m.rows k all)
      ∙ row_at-map (part_terms c0 c1) refl m.rows i

  pub row_degrees-columns : row_degrees (part 0 k c0 c1 m) ≡ row_degrees m
  row_degrees-columns =
      row_degrees-part 0 k c0 c1 m ∙ slice_range-whole (row_degrees m) k (rw length-map all)

module _ (a b : Matrix) (h : AreBeside a b) where
  pub row_degrees-beside : row_degrees (beside a b) ≡ row_degrees a
  row_degrees-beside = degrees-row_by_row (λ us vs. us ++ moved (length a.target) vs) a.rows b.rows h.degrees

  pub row_at-beside : (i : ℕ)
      → row_at (beside a b).rows i ≡ row_at a.rows i ++ moved (length a.target) (row_at b.rows i)
  row_at-beside i = row_at-row_by_row (λ us vs. us ++ moved (length a.target) vs) refl a.rows b.rows h.degrees i

  pub entry-beside_first : (i j : ℕ) → j < length a.target
      → entry j (row_at (beside a b).rows i) ≡ entry j (row_at a.rows i)
  entry-beside_first i j first =
      ap (entry j) (row_at-beside i) ∙ entry-pair_first (length a.target) j (row_at a.rows i) (row_at b.rows i) first

  pub entry-beside_last : IsMatrix a → (i j : ℕ)
      → entry (length a.target + j) (row_at (beside a b).rows i) ≡ entry j (row_at b.rows i)
  entry-beside_last k i j =
      ap (entry (length a.target + j)) (row_at-beside i)
      ∙ entry-pair_last (length a.target) j (row_at a.rows i) (row_at b.rows i)
      (IsWithin-matrix_row a.ring a.target a.rows k i)

  pub length-beside : length (beside a b).rows ≡ length a.rows
  length-beside = length-degrees (beside a b).rows a.rows row_degrees-beside

  module _ (k : IsMatrix a) (l : IsMatrix b) where
    same_ring : AllByRecursion (IsVector a.ring b.target) b.rows
    same_ring = subst (λ q. AllByRecursion (IsVector q b.target) b.rows) (sym h.rings) l

    pub IsMatrix-beside : IsMatrix (beside a b)
    IsMatrix-beside =
        AllByRecursion-row_by_row (λ us vs. us ++ moved (length a.target) vs) (IsVector a.ring a.target)
        (IsVector a.ring b.target) (IsVector a.ring (a.target ++ b.target))
        (λ d us vs m n. IsVector-pair a.target b.target d a.ring us vs m n) a.rows b.rows h.degrees k same_ring

    -- the left columns and the right ones
    pub part-beside_first : part 0 (length a.rows) 0 (length a.target) (beside a b) ≡ a
    part-beside_first =
        let m = beside a b in
        let size : length m.rows ≡ length a.rows = length-beside in
        let all : length m.rows ≤ length a.rows = omega arith in
        same_by_rows (part 0 (length a.rows) 0 (length a.target) m) a refl
        (slice_range-first a.target b.target (length a.target) refl)
        (row_degrees-columns (length a.rows) 0 (length a.target) m all ∙ row_degrees-beside)
        (λ i.
        row_at-columns (length a.rows) 0 (length a.target) m all i
        ∙ ap (part_terms 0 (length a.target)) (row_at-beside i)
        ∙ part_terms-pair_first (length a.target) (row_at a.rows i) (row_at b.rows i)
        (IsWithin-matrix_row a.ring a.target a.rows k i))

    pub part-beside_last : part 0 (length a.rows) (length a.target) (length a.target + length b.target) (beside a b) ≡ b
    part-beside_last =
        let m = beside a b in
        let n = length a.target in
        let size : length m.rows ≡ length a.rows = length-beside in
        let all : length m.rows ≤ length a.rows = omega arith in
        same_by_rows (part 0 (length a.rows) n (n + length b.target) m) b h.rings
        (slice_range-second a.target b.target n (n + length b.target) refl (omega arith))
        (row_degrees-columns (length a.rows) n (n + length b.target) m all ∙ row_degrees-beside ∙ h.degrees)
        (λ i.
        row_at-columns (length a.rows) n (n + length b.target) m all i
        ∙ ap (part_terms n (n + length b.target)) (row_at-beside i)
        ∙ part_terms-pair_last n (length b.target) (row_at a.rows i) (row_at b.rows i)
        (IsWithin-matrix_row a.ring a.target a.rows k i) (IsWithin-matrix_row b.ring b.target b.rows l i))

    -- a matrix with the entries of both
    pub same_beside : (m : Matrix) → IsMatrix m → m.ring ≡ a.ring → m.target ≡ a.target ++ b.target
        → row_degrees m ≡ row_degrees a
        → ((i j : ℕ) → j < length a.target → entry j (row_at m.rows i) ≡ entry j (row_at a.rows i))
        → ((i j : ℕ) → entry (length a.target + j) (row_at m.rows i) ≡ entry j (row_at b.rows i)) → m ≡ beside a b
    same_beside m is_matrix rings targets degrees first last =
        same_matrices m (beside a b) is_matrix IsMatrix-beside rings targets (degrees ∙ sym row_degrees-beside)
        (λ i j. elim (cases_lt j (length a.target)) [
          | inl before ↦ first i j before ∙ sym (entry-beside_first i j before)
          | inr reached ↦
              let same : length a.target + (j - length a.target) ≡ j = omega arith in
              subst (λ n. entry n (row_at m.rows i) ≡ entry n (row_at (beside a b).rows i)) same
              (last i (j - length a.target) ∙ sym (entry-beside_last k i (j - length a.target)))
        ])
