-- The transposes of matrices side by side and of stacks.
use Rattle.std.proofs.Common.{◌≡◌, refl, ◌+◌, ◌-◌, ◌++◌, length, map, neg_ℤ, ap, sym, ◌∙◌, inl, inr, arith}
use Rattle.std.proofs.lemmas.Bool.{cases_lt}
use Rattle.std.proofs.lemmas.List.{map-append}
use Rattle.sf_algebra.specs.Matrices.{Matrix, IsMatrix}
use Rattle.sf_algebra.specs.MatrixOperations.{row_at, transposed, stacked}
use Rattle.sf_algebra.specs.Vectors.{entry}
use Rattle.sf_algebra.proofs.GradedMatrices.MatrixRows.{same_matrices}
use Rattle.sf_algebra.proofs.GradedMatrices.Stacks.{IsMatrix-stacked, row_degrees-stacked}
use Rattle.sf_algebra.proofs.GradedMatrices.Transposes.{IsMatrix-transposed, entry-transposed, row_degrees-transposed, transposed-transposed, length-column_rows}
use Rattle.sf_algebra.proofs.Vectors.Rows.{row_at-append_first, row_at-append_second}
use Rattle.sf_blocks.specs.SideBySide.{AreBeside, beside}
use Rattle.sf_blocks.proofs.SideBySide.Beside.{row_degrees-beside, entry-beside_first, entry-beside_last, IsMatrix-beside}

pub transposed-beside : (a b : Matrix) → AreBeside a b → IsMatrix a → IsMatrix b
    → transposed (beside a b) ≡ stacked (transposed a) (transposed b)
transposed-beside a b h k l =
    let m = beside a b in
    let n = length a.target in
    let ta = transposed a in
    let tb = transposed b in
    let is_matrix = IsMatrix-beside a b h k l in
    let size : length ta.rows ≡ n = length-column_rows a.rows 0 a.target in
    same_matrices (transposed m) (stacked ta tb) (IsMatrix-transposed m is_matrix)
    (IsMatrix-stacked ta tb h.rings (ap (map neg_ℤ) h.degrees) (IsMatrix-transposed a k) (IsMatrix-transposed b l)) refl
    (ap (map neg_ℤ) (row_degrees-beside a b h))
    (row_degrees-transposed m
    ∙ map-append neg_ℤ a.target b.target
    ∙ sym (row_degrees-stacked ta tb ∙ (λ i. row_degrees-transposed a i ++ row_degrees-transposed b i)))
    (λ i j.
    entry-transposed m is_matrix j i
    ∙ elim (cases_lt i n) [
      | inl before ↦
          entry-beside_first a b h j i before
          ∙ sym (ap (entry j) (row_at-append_first ta.rows tb.rows i (omega arith)) ∙ entry-transposed a k j i)
      | inr reached ↦
          let same : n + (i - n) ≡ i = omega arith in
          let place : length ta.rows + (i - n) ≡ i = omega arith in
          ap (λ e. entry e (row_at m.rows j)) (sym same)
          ∙ entry-beside_last a b h k j (i - n)
          ∙ sym (ap (λ e. entry j (row_at (stacked ta tb).rows e)) (sym place)
          ∙ ap (entry j) (row_at-append_second ta.rows tb.rows (i - n)) ∙ entry-transposed b l j (i - n))
    ])

pub AreBeside-transposed : (a b : Matrix) → a.ring ≡ b.ring → a.target ≡ b.target
    → AreBeside (transposed a) (transposed b)
AreBeside-transposed a b rings targets = record {
  rings = rings;
  degrees = row_degrees-transposed a ∙ ap (map neg_ℤ) targets ∙ sym (row_degrees-transposed b);
}

-- by the transpose of the transposes side by side
pub transposed-stacked : (a b : Matrix) → a.ring ≡ b.ring → a.target ≡ b.target → IsMatrix a → IsMatrix b
    → transposed (stacked a b) ≡ beside (transposed a) (transposed b)
transposed-stacked a b rings targets k l =
    let h = AreBeside-transposed a b rings targets in
    let ta = IsMatrix-transposed a k in
    let tb = IsMatrix-transposed b l in
    ap transposed (λ i. stacked (sym (transposed-transposed a k) i) (sym (transposed-transposed b l) i))
    ∙ ap transposed (sym (transposed-beside (transposed a) (transposed b) h ta tb))
    ∙ transposed-transposed (beside (transposed a) (transposed b)) (IsMatrix-beside (transposed a) (transposed b) h ta tb)
