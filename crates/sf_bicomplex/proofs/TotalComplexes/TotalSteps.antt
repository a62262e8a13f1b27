-- The map of the total complex raises no column and reaches no further than the next lower one, row by row: the rows of
-- the highest column have dv, then dh and zeros; those below are moved on.
use Rattle.std.proofs.Common.{◌≡◌, ℕ, zero, suc, ◌+◌, ◌-◌, ◌<◌, ◌≤◌, List, ◌++◌, length, drop, sym, ap, ◌∙◌, subst, arith, ℤ, pos, ◌-ℤ◌, inl, inr, append-nil}
use Rattle.std.proofs.lemmas.Bool.{cases_lt}
use Rattle.std.proofs.lemmas.List.{length-map}
use Rattle.std.specs.List.{AllByRecursion}
use Rattle.sf_algebra.specs.Matrices.{Matrix, row_degrees}
use Rattle.sf_algebra.specs.MatrixOperations.{moved, row_at}
use Rattle.sf_algebra.specs.Terms.{Term}
use Rattle.sf_algebra.specs.Vectors.{Place, Vector}
use Rattle.sf_algebra.proofs.Basics.Lists.{AllByRecursion-append, AllByRecursion-weaken}
use Rattle.sf_algebra.proofs.GradedMatrices.MatrixRows.{IsWithin-matrix_row}
use Rattle.sf_algebra.proofs.GradedMatrices.Stacks.{AllByRecursion-map}
use Rattle.sf_algebra.proofs.Tensors.KroneckerTerms.{moved_term}
use Rattle.sf_algebra.proofs.Terms.Normal.{EachPlace}
use Rattle.sf_algebra.proofs.Vectors.Rows.{row_at-append_first, row_at-append_second}
use Rattle.sf_blocks.specs.MatrixSums.{zero_matrix}
use Rattle.sf_blocks.specs.SideBySide.{AreBeside, beside}
use Rattle.sf_blocks.specs.TotalDifferentials.{total_differential, total_source, total_target, widened}
use Rattle.sf_blocks.proofs.MatrixSums.SumGroups.{row_at-zero_matrix}
use Rattle.sf_blocks.proofs.SideBySide.Beside.{length-beside, row_at-beside}
use Rattle.sf_blocks.proofs.Totals.TotalMatrices.{AreBeside-zeros_behind, AreBlocks-total, zeros_behind}
use Rattle.sf_bicomplex.specs.Bicomplexes.{Bicomplex, IsBicomplex}
use Rattle.sf_bicomplex.specs.TotalColumns.{place, spots}
use Rattle.sf_bicomplex.proofs.Columns.ColumnMaps.{StepsDown}
use Rattle.sf_bicomplex.proofs.TotalComplexes.Diagonals.{horizontal_matrix, left_room, spots-diagonal, total-spots, vertical_source, vertical_target}
use Rattle.sf_bicomplex.proofs.TotalComplexes.TotalModules.{length-lowest, length-lowest_rises, start, total_rows}

EachPlace-moved : (P : Place → Type 0) (by : ℕ) (ts : List (Term Place))
    → AllByRecursion (λ t. P (moved_term by t).at) ts → EachPlace P (moved by ts)
EachPlace-moved P by ts h = AllByRecursion-map (λ t. P t.at) (moved_term by) ts h

module _ (b : Bicomplex) (h : IsBicomplex b) (n m : ℤ) (lower : m ≡ n -ℤ pos 1) where
  -- one more column
  module _ (k : ℕ) where
    abbrev pub vertical : Matrix
    vertical = b.vertical k (n -ℤ pos k)

    abbrev pub horizontal : Matrix
    horizontal = b.horizontal k (n -ℤ pos k)

    abbrev pub behind : Matrix
    behind = widened (total_target (spots b n k)) horizontal

    abbrev pub zeros : Matrix
    zeros = zero_matrix b.ring (total_source (spots b n k)) vertical.target

    abbrev pub rest : Matrix
    rest = total_differential b.ring (spots b n k)

    pub blocks-beside : AreBeside vertical behind × AreBeside zeros rest
    blocks-beside =
        let all =
        AreBlocks-total b.ring (record { vertical = vertical; horizontal = horizontal }) (spots b n k)
        (spots-diagonal b h n m lower (suc k)).0 (total-spots b h n m lower k) in
        (all.upper, all.lower)

    pub length-first : length (beside vertical behind).rows ≡ length vertical.rows
    length-first = length-beside vertical behind blocks-beside.0

    pub vertical-size : length vertical.rows ≡ length (place b n k).target
    vertical-size = sym (length-map vertical.rows (λ (v : Vector). v.degree)) ∙ ap length (vertical_source b h n k)

    pub target-size : length vertical.target ≡ length (place b m k).target
    target-size = ap length (vertical_target b h n m lower k)

    pub row_at-behind : (i : ℕ) → row_at behind.rows i ≡ row_at horizontal.rows i
    row_at-behind i =
        row_at-beside horizontal (zeros_behind horizontal (total_target (spots b n k)))
        (AreBeside-zeros_behind horizontal (total_target (spots b n k))) i
        ∙ ap (λ ts. row_at horizontal.rows i ++ moved (length horizontal.target) ts)
        (row_at-zero_matrix horizontal.ring (row_degrees horizontal)
        (drop (length horizontal.target) (total_target (spots b n k))) i)
        ∙ append-nil (row_at horizontal.rows i)

    pub row_at-first : (i : ℕ) → i < length vertical.rows
        → row_at (total_rows b n (suc k)) i
        ≡ row_at vertical.rows i ++ moved (length vertical.target) (row_at horizontal.rows i)
    row_at-first i within =
        row_at-append_first (beside vertical behind).rows (beside zeros rest).rows i (rw length-first within)
        ∙ row_at-beside vertical behind blocks-beside.0 i
        ∙ ap (λ ts. row_at vertical.rows i ++ moved (length vertical.target) ts) (row_at-behind i)

    pub row_at-second : (i : ℕ)
        → row_at (total_rows b n (suc k)) (length vertical.rows + i)
        ≡ moved (length vertical.target) (row_at (total_rows b n k) i)
    row_at-second i =
        ap (λ s. row_at (total_rows b n (suc k)) (s + i)) (sym length-first)
        ∙ row_at-append_second (beside vertical behind).rows (beside zeros rest).rows i
        ∙ row_at-beside zeros rest blocks-beside.1 i
        ∙ ap (λ ts. ts ++ moved (length vertical.target) (row_at (total_rows b n k) i))
        (row_at-zero_matrix b.ring (total_source (spots b n k)) vertical.target i)

    first-within : (i : ℕ) → i < length vertical.rows
        → EachPlace (λ l. l.position < length vertical.target + length horizontal.target) (row_at (total_rows b n (suc k)) i)
    first-within i within =
        subst (EachPlace (λ l. l.position < length vertical.target + length horizontal.target))
        (sym (row_at-first i within))
        (AllByRecursion-append _ (row_at vertical.rows i) _
        (AllByRecursion-weaken (λ (t : Term Place). t.at.position < length vertical.target) _ (λ t e. omega arith)
        (row_at vertical.rows i)
        (IsWithin-matrix_row vertical.ring vertical.target vertical.rows (h.downward k (n -ℤ pos k)).matrix i))
        (EachPlace-moved _ (length vertical.target) (row_at horizontal.rows i)
        (AllByRecursion-weaken (λ (t : Term Place). t.at.position < length horizontal.target) _ (λ t e. omega arith)
        (row_at horizontal.rows i)
        (IsWithin-matrix_row horizontal.ring horizontal.target horizontal.rows (horizontal_matrix b h n k) i))))

    second-places : (P Q : Place → Type 0) (i : ℕ) → EachPlace P (row_at (total_rows b n k) i)
        → ((t : Term Place) → P t.at → Q (moved_term (length vertical.target) t).at)
        → EachPlace Q (row_at (total_rows b n (suc k)) (length vertical.rows + i))
    second-places P Q i each moves =
        subst (EachPlace Q) (sym (row_at-second i))
        (EachPlace-moved Q (length vertical.target) (row_at (total_rows b n k) i)
        (AllByRecursion-weaken _ _ moves (row_at (total_rows b n k) i) each))

    -- the rows of the highest column have no term below it where they stand below it, and reach to the next column
    first-keeps : (i j : ℕ) → i < length vertical.rows → start b n (suc k) j ≤ i → start b m (suc k) j ≡ 0
    first-keeps i j within past =
        let more = length-lowest b n k in
        let rows = vertical-size in
        elim (cases_lt k j) [
          | inl above ↦ let all = length-lowest_rises b m (suc k) j (omega arith) in omega arith
          | inr below ↦ let fewer = length-lowest_rises b n j k below in absurd (omega arith)
        ]

    first-reaches : (i j : ℕ) → i < start b n (suc k) (suc j)
        → length vertical.target + length horizontal.target ≤ start b m (suc k) j
    first-reaches i j before =
        elim (cases_lt j k) [
          | inl below ↦
              let room = left_room b h n m lower k j below in
              let more = length-lowest b m k in
              let columns = target-size in
              omega arith
          | inr above ↦ let fewer = length-lowest_rises b n (suc k) (suc j) (omega arith) in absurd (omega arith)
        ]

    next-keeps : StepsDown (start b n k) (start b m k) (total_rows b n k) → (i j : ℕ) → start b n (suc k) j ≤ i
        → EachPlace (λ l. start b m (suc k) j ≤ l.position) (row_at (total_rows b n (suc k)) i)
    next-keeps others i j past =
        elim (cases_lt i (length vertical.rows)) [
          | inl within ↦
              let none = first-keeps i j within past in
              AllByRecursion-weaken _ (λ t. start b m (suc k) j ≤ t.at.position) (λ t e. omega arith)
              (row_at (total_rows b n (suc k)) i) (first-within i within)
          | inr reached ↦
              let i' = i - length vertical.rows in
              let same : length vertical.rows + i' ≡ i = omega arith in
              let more = length-lowest b n k in
              let more_below = length-lowest b m k in
              let rows = vertical-size in
              let columns = target-size in
              subst (λ l. EachPlace (λ x. start b m (suc k) j ≤ x.position) (row_at (total_rows b n (suc k)) l)) same
              (second-places (λ x. start b m k j ≤ x.position) (λ x. start b m (suc k) j ≤ x.position) i'
              (others.keeps i' j (omega arith)) (λ t e. omega arith))
        ]

    next-reaches : StepsDown (start b n k) (start b m k) (total_rows b n k) → (i j : ℕ)
        → i < start b n (suc k) (suc j)
        → EachPlace (λ l. l.position < start b m (suc k) j) (row_at (total_rows b n (suc k)) i)
    next-reaches others i j before =
        elim (cases_lt i (length vertical.rows)) [
          | inl within ↦
              let room = first-reaches i j before in
              AllByRecursion-weaken (λ (t : Term Place). t.at.position < length vertical.target + length horizontal.target)
              (λ t. t.at.position < start b m (suc k) j) (λ t e. omega arith)
              (row_at (total_rows b n (suc k)) i) (first-within i within)
          | inr reached ↦
              let i' = i - length vertical.rows in
              let same : length vertical.rows + i' ≡ i = omega arith in
              let more = length-lowest b n k in
              let more_below = length-lowest b m k in
              let rows = vertical-size in
              let columns = target-size in
              subst (λ l. EachPlace (λ x. x.position < start b m (suc k) j) (row_at (total_rows b n (suc k)) l)) same
              (second-places (λ x. x.position < start b m k j) (λ x. x.position < start b m (suc k) j) i'
              (others.reaches i' j (omega arith)) (λ t e. omega arith))
        ]

  pub total-steps_down : (k : ℕ) → StepsDown (start b n k) (start b m k) (total_rows b n k)
  total-steps_down zero = record { keeps = λ i j e. tt; reaches = λ i j e. tt }
  total-steps_down (suc k) = record {
    keeps = next-keeps k (total-steps_down k);
    reaches = next-reaches k (total-steps_down k);
  }
