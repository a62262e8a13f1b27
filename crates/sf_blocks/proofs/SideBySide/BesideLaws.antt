-- Sums, negatives, zeros and stacks of matrices side by side, and three of them.
use Rattle.std.proofs.Common.{◌≡◌, refl, ℕ, ◌+◌, ◌-◌, ◌<◌, ◌≤◌, List, [], ◌++◌, length, ap, sym, ◌∙◌, subst, ℤ, inl, inr, arith, append_assoc, append-nil, length-take, length-drop}
use Rattle.std.proofs.lemmas.Bool.{cases_lt}
use Rattle.std.proofs.lemmas.List.{map-append, length-append}
use Rattle.sf_algebra.specs.Matrices.{Matrix, row_degrees, IsMatrix}
use Rattle.sf_algebra.specs.MatrixOperations.{row_at, moved, negated, part, stacked}
use Rattle.sf_algebra.specs.Multiples.{negative, negative_term}
use Rattle.sf_algebra.specs.Polynomials.{polynomial_sum}
use Rattle.sf_algebra.specs.Rings.{Ring}
use Rattle.sf_algebra.specs.Vectors.{entry}
use Rattle.sf_algebra.proofs.GradedMatrices.NegatedMatrices.{row_degrees-negated}
use Rattle.sf_algebra.proofs.GradedMatrices.Parts.{IsMatrix-part, row_degrees-part, entry-part, entry-part_past_row, entry-part_past_column}
use Rattle.sf_algebra.proofs.GradedMatrices.Ranges.{slice_range-append}
use Rattle.sf_algebra.proofs.Vectors.RowParts.{row_at-negated}
use Rattle.sf_blocks.specs.MatrixSums.{row_by_row, AreParallel, matrix_sum, zero_matrix}
use Rattle.sf_blocks.specs.SideBySide.{AreBeside, beside}
use Rattle.sf_blocks.proofs.MatrixSums.RowsByRows.{same_by_rows, row_by_row-append}
use Rattle.sf_blocks.proofs.MatrixSums.SumGroups.{IsMatrix-matrix_sum, row_degrees-matrix_sum, entry-matrix_sum, row_at-zero_matrix, row_degrees-zero_matrix, same_zero}
use Rattle.sf_blocks.proofs.SideBySide.Beside.{row_degrees-beside, row_at-beside, entry-beside_first, entry-beside_last, IsMatrix-beside, same_beside}
use Rattle.sf_blocks.proofs.SideBySide.PairEntries.{moved-append, moved-moved, negative-moved}

-- columns of a matrix, and the columns behind them
pub beside-parts : (r0 r1 c0 c1 c2 : ℕ) (m : Matrix) → IsMatrix m → c0 ≤ c1 → c1 ≤ c2 → c1 ≤ length m.target
    → beside (part r0 r1 c0 c1 m) (part r0 r1 c1 c2 m) ≡ part r0 r1 c0 c2 m
beside-parts r0 r1 c0 c1 c2 m is_matrix first second within =
    let a = part r0 r1 c0 c1 m in
    let b = part r0 r1 c1 c2 m in
    let n = part r0 r1 c0 c2 m in
    let size : length a.target ≡ c1 - c0 = rw (length-take, length-drop) (omega arith) in
    sym (same_beside a b
    (record { rings = refl; degrees = row_degrees-part r0 r1 c0 c1 m ∙ sym (row_degrees-part r0 r1 c1 c2 m) })
    (IsMatrix-part r0 r1 c0 c1 m is_matrix) (IsMatrix-part r0 r1 c1 c2 m is_matrix) n
    (IsMatrix-part r0 r1 c0 c2 m is_matrix) refl (sym (slice_range-append m.target c0 c1 c2 first second))
    (row_degrees-part r0 r1 c0 c2 m ∙ sym (row_degrees-part r0 r1 c0 c1 m))
    (λ i j before. elim (cases_lt (r0 + i) r1) [
      | inl row ↦ entry-part r0 r1 c0 c2 m i j row (omega arith) ∙ sym (entry-part r0 r1 c0 c1 m i j row (omega arith))
      | inr past ↦ entry-part_past_row r0 r1 c0 c2 m i j past ∙ sym (entry-part_past_row r0 r1 c0 c1 m i j past)
    ])
    (λ i j. elim (cases_lt (r0 + i) r1) [
      | inl row ↦ elim (cases_lt (c1 + j) c2) [
        | inl column ↦
            let same : c0 + (length a.target + j) ≡ c1 + j = omega arith in
            entry-part r0 r1 c0 c2 m i (length a.target + j) row (omega arith)
            ∙ ap (λ k. entry k (row_at m.rows (r0 + i))) same
            ∙ sym (entry-part r0 r1 c1 c2 m i j row column)
        | inr past ↦ entry-part_past_column r0 r1 c0 c2 m i (length a.target + j) (omega arith)
            ∙ sym (entry-part_past_column r0 r1 c1 c2 m i j past)
      ]
      | inr past ↦ entry-part_past_row r0 r1 c0 c2 m i (length a.target + j) past
          ∙ sym (entry-part_past_row r0 r1 c1 c2 m i j past)
    ]))

-- three matrices
pub beside-assoc : (a b c : Matrix) → AreBeside a b → AreBeside b c
    → beside (beside a b) c ≡ beside a (beside b c)
beside-assoc a b c h k =
    let ab = beside a b in
    let bc = beside b c in
    let m = length a.target in
    let n = length b.target in
    let first : AreBeside ab c = record
    { rings = h.rings ∙ k.rings; degrees = row_degrees-beside a b h ∙ h.degrees ∙ k.degrees } in
    let last : AreBeside a bc = record { rings = h.rings; degrees = h.degrees ∙ sym (row_degrees-beside b c k) } in
    same_by_rows (beside ab c) (beside a bc) refl (append_assoc a.target b.target c.target)
    (row_degrees-beside ab c first ∙ row_degrees-beside a b h ∙ sym (row_degrees-beside a bc last))
    (λ i.
    row_at-beside ab c first i
    ∙ (λ l. row_at-beside a b h i l ++ moved (length-append a.target b.target l) (row_at c.rows i))
    ∙ append_assoc (row_at a.rows i) (moved m (row_at b.rows i)) (moved (m + n) (row_at c.rows i))
    ∙ ap (λ ts. row_at a.rows i ++ (moved m (row_at b.rows i) ++ ts)) (sym (moved-moved m n (row_at c.rows i)))
    ∙ ap (λ ts. row_at a.rows i ++ ts) (sym (moved-append m (row_at b.rows i) (moved n (row_at c.rows i))))
    ∙ ap (λ ts. row_at a.rows i ++ moved m ts) (sym (row_at-beside b c k i))
    ∙ sym (row_at-beside a bc last i))

-- a matrix without columns behind another
pub beside-no_columns : (m : Matrix) → beside m (zero_matrix m.ring (row_degrees m) []) ≡ m
beside-no_columns m =
    let z = zero_matrix m.ring (row_degrees m) [] in
    let h : AreBeside m z = record { rings = refl; degrees = sym (row_degrees-zero_matrix m.ring (row_degrees m) []) } in
    same_by_rows (beside m z) m refl (append-nil m.target) (row_degrees-beside m z h)
    (λ i.
    row_at-beside m z h i
    ∙ ap (λ ts. row_at m.rows i ++ moved (length m.target) ts) (row_at-zero_matrix m.ring (row_degrees m) [] i)
    ∙ append-nil (row_at m.rows i))

-- zeros
pub beside-zeros : (ring : Ring) (source first last : List ℤ)
    → beside (zero_matrix ring source first) (zero_matrix ring source last) ≡ zero_matrix ring source (first ++ last)
beside-zeros ring source first last =
    let a = zero_matrix ring source first in
    let b = zero_matrix ring source last in
    let h : AreBeside a b = record {
      rings = refl;
      degrees = row_degrees-zero_matrix ring source first
          ∙ sym (row_degrees-zero_matrix ring source last);
    } in
    same_zero (beside a b) (λ i.
    row_at-beside a b h i
    ∙ (λ l. row_at-zero_matrix ring source first i l ++ moved (length first) (row_at-zero_matrix ring source last i l)))
    ∙ ap (λ ds. zero_matrix ring ds (first ++ last))
    (row_degrees-beside a b h ∙ row_degrees-zero_matrix ring source first)

-- the negative
pub negated-beside : (a b : Matrix) → AreBeside a b → negated (beside a b) ≡ beside (negated a) (negated b)
negated-beside a b h =
    let m = beside a b in
    let p = a.ring.modulus in
    let k : AreBeside (negated a) (negated b) = record
    { rings = h.rings; degrees = row_degrees-negated a ∙ h.degrees ∙ sym (row_degrees-negated b) } in
    same_by_rows (negated m) (beside (negated a) (negated b)) refl refl
    (row_degrees-negated m ∙ row_degrees-beside a b h
    ∙ sym (row_degrees-beside (negated a) (negated b) k ∙ row_degrees-negated a))
    (λ i.
    row_at-negated m i
    ∙ ap (negative p) (row_at-beside a b h i)
    ∙ map-append (negative_term p) (row_at a.rows i) (moved (length a.target) (row_at b.rows i))
    ∙ ap (λ ts. negative p (row_at a.rows i) ++ ts) (negative-moved p (length a.target) (row_at b.rows i))
    ∙ ap (λ (q : Ring). negative p (row_at a.rows i) ++ moved (length a.target)
    (negative q.modulus (row_at b.rows i))) h.rings
    ∙ (λ l. sym (row_at-negated a i) l ++ moved (length a.target) (sym (row_at-negated b i) l))
    ∙ sym (row_at-beside (negated a) (negated b) k i))

-- sums
module _ (a b c d : Matrix) (positive : 0 < a.ring.modulus) (h : AreBeside a b) (x : AreParallel a c)
    (y : AreParallel b d) where
  pub AreBeside-parallel : AreBeside c d
  AreBeside-parallel = record { rings = sym x.rings ∙ h.rings ∙ y.rings; degrees = sym x.degrees ∙ h.degrees ∙ y.degrees }

  pub AreParallel-beside : AreParallel (beside a b) (beside c d)
  AreParallel-beside = record {
    rings = x.rings;
    targets = (λ i. x.targets i ++ y.targets i);
    degrees = row_degrees-beside a b h ∙ x.degrees ∙ sym (row_degrees-beside c d AreBeside-parallel);
  }

  pub AreBeside-sums : AreBeside (matrix_sum a c) (matrix_sum b d)
  AreBeside-sums = record {
    rings = h.rings;
    degrees = row_degrees-matrix_sum a c x ∙ h.degrees
        ∙ sym (row_degrees-matrix_sum b d y);
  }

  pub matrix_sum-beside : IsMatrix a → IsMatrix b → IsMatrix c → IsMatrix d
      → matrix_sum (beside a b) (beside c d) ≡ beside (matrix_sum a c) (matrix_sum b d)
  matrix_sum-beside ma mb mc md =
      let k = AreBeside-parallel in
      let p = AreParallel-beside in
      let second : 0 < b.ring.modulus = subst (λ (q : Ring). 0 < q.modulus) h.rings positive in
      let size : length c.target ≡ length a.target = ap length (sym x.targets) in
      same_beside (matrix_sum a c) (matrix_sum b d) AreBeside-sums (IsMatrix-matrix_sum a c x positive ma mc)
      (IsMatrix-matrix_sum b d y second mb md) (matrix_sum (beside a b) (beside c d))
      (IsMatrix-matrix_sum (beside a b) (beside c d) p positive (IsMatrix-beside a b h ma mb)
      (IsMatrix-beside c d k mc md))
      refl refl
      (row_degrees-matrix_sum (beside a b) (beside c d) p ∙ row_degrees-beside a b h ∙ sym (row_degrees-matrix_sum a c x))
      (λ i j before.
      entry-matrix_sum (beside a b) (beside c d) p positive i j
      ∙ (λ l. polynomial_sum a.ring (entry-beside_first a b h i j before l)
      (entry-beside_first c d k i j (omega arith) l))
      ∙ sym (entry-matrix_sum a c x positive i j))
      (λ i j.
      let n = length a.target in
      entry-matrix_sum (beside a b) (beside c d) p positive i (n + j)
      ∙ (λ l. polynomial_sum a.ring (entry-beside_last a b h ma i j l)
      ((ap (λ m. entry (m + j) (row_at (beside c d).rows i)) (sym size) ∙ entry-beside_last c d k mc i j) l))
      ∙ ap (λ q. polynomial_sum q (entry j (row_at b.rows i)) (entry j (row_at d.rows i))) h.rings
      ∙ sym (entry-matrix_sum b d y second i j))

-- one pair above another
pub stacked-beside : (a b c d : Matrix) → a.target ≡ c.target → AreBeside a b
    → stacked (beside a b) (beside c d) ≡ beside (stacked a c) (stacked b d)
stacked-beside a b c d targets h =
    let n = length a.target in
    let rows = ap (λ (ds : List ℤ). (beside a b).rows ++ row_by_row (λ us vs. us ++ moved (length ds) vs) c.rows
    d.rows) (sym targets)
    ∙ sym (row_by_row-append (λ us vs. us ++ moved n vs) a.rows b.rows c.rows d.rows h.degrees) in
    λ i. record { ring = a.ring; target = a.target ++ b.target; rows = rows i }
