-- Blocks: that they are a matrix, their rows, sums, negatives and transposes.
use Rattle.std.proofs.Common.{◌≡◌, ◌+◌, ◌<◌, ◌++◌, length, map, neg_ℤ, ap, sym, ◌∙◌, subst}
use Rattle.std.proofs.lemmas.List.{length-append}
use Rattle.sf_algebra.specs.Matrices.{Matrix, row_degrees, IsMatrix}
use Rattle.sf_algebra.specs.MatrixOperations.{negated, part, stacked, transposed}
use Rattle.sf_algebra.specs.Rings.{Ring}
use Rattle.sf_algebra.specs.VectorOperations.{row_sum}
use Rattle.sf_algebra.proofs.GradedMatrices.Parts.{part-stacked_first, part-stacked_second}
use Rattle.sf_algebra.proofs.GradedMatrices.Stacks.{IsMatrix-stacked, row_degrees-stacked, negated-stacked}
use Rattle.sf_blocks.specs.MatrixSums.{row_by_row, AreParallel, matrix_sum}
use Rattle.sf_blocks.specs.SideBySide.{AreBlocks, beside, blocks}
use Rattle.sf_blocks.proofs.MatrixSums.RowsByRows.{row_by_row-append}
use Rattle.sf_blocks.proofs.SideBySide.Beside.{row_degrees-beside, IsMatrix-beside, length-beside}
use Rattle.sf_blocks.proofs.SideBySide.BesideLaws.{negated-beside, matrix_sum-beside, stacked-beside, AreParallel-beside}
use Rattle.sf_blocks.proofs.SideBySide.BesideTransposes.{AreBeside-transposed, transposed-beside, transposed-stacked}

pub matrix_sum-stacked : (a b c d : Matrix) → a.ring ≡ b.ring → AreParallel a c
    → matrix_sum (stacked a b) (stacked c d) ≡ stacked (matrix_sum a c) (matrix_sum b d)
matrix_sum-stacked a b c d rings h =
    let rows = row_by_row-append (row_sum a.ring) a.rows c.rows b.rows d.rows h.degrees
    ∙ ap (λ q. row_by_row (row_sum a.ring) a.rows c.rows ++ row_by_row (row_sum q) b.rows d.rows) rings in
    λ i. record { ring = a.ring; target = a.target; rows = rows i }

module _ (a b c d : Matrix) (h : AreBlocks a b c d) where
  pub targets-blocks : (beside a b).target ≡ (beside c d).target
  targets-blocks i = h.left i ++ h.right i

  pub row_degrees-blocks : row_degrees (blocks a b c d) ≡ row_degrees a ++ row_degrees c
  row_degrees-blocks =
      row_degrees-stacked (beside a b) (beside c d)
      ∙ (λ i. row_degrees-beside a b h.upper i ++ row_degrees-beside c d h.lower i)

  pub negated-blocks : negated (blocks a b c d) ≡ blocks (negated a) (negated b) (negated c) (negated d)
  negated-blocks =
      negated-stacked (beside a b) (beside c d) h.rings
      ∙ (λ i. stacked (negated-beside a b h.upper i) (negated-beside c d h.lower i))

  module _ (ma : IsMatrix a) (mb : IsMatrix b) (mc : IsMatrix c) (md : IsMatrix d) where
    pub IsMatrix-blocks : IsMatrix (blocks a b c d)
    IsMatrix-blocks =
        IsMatrix-stacked (beside a b) (beside c d) h.rings targets-blocks (IsMatrix-beside a b h.upper ma mb)
        (IsMatrix-beside c d h.lower mc md)

    pub part-blocks_first : part 0 (length a.rows) 0 (length a.target + length b.target) (blocks a b c d) ≡ beside a b
    part-blocks_first =
        let m = beside a b in
        (λ i. part 0 (sym (length-beside a b h.upper) i) 0 (sym (length-append a.target b.target) i) (blocks a b c d))
        ∙ part-stacked_first m (beside c d) (IsMatrix-beside a b h.upper ma mb)

    pub part-blocks_last : part (length a.rows) (length a.rows + length c.rows) 0 (length c.target + length d.target)
        (blocks a b c d)
        ≡ beside c d
    part-blocks_last =
        (λ i. part (sym (length-beside a b h.upper) i)
        (sym (length-beside a b h.upper) i + sym (length-beside c d h.lower) i) 0
        (sym (length-append c.target d.target) i) (blocks a b c d))
        ∙ part-stacked_second (beside a b) (beside c d) h.rings targets-blocks (IsMatrix-beside c d h.lower mc md)

    pub transposed-blocks : transposed (blocks a b c d)
        ≡ blocks (transposed a) (transposed c) (transposed b) (transposed d)
    transposed-blocks =
        let ta = transposed a in
        let tb = transposed b in
        let tc = transposed c in
        let td = transposed d in
        transposed-stacked (beside a b) (beside c d) h.rings targets-blocks (IsMatrix-beside a b h.upper ma mb)
        (IsMatrix-beside c d h.lower mc md)
        ∙ (λ i. beside (transposed-beside a b h.upper ma mb i) (transposed-beside c d h.lower mc md i))
        ∙ sym (stacked-beside ta tc tb td (ap (map neg_ℤ) h.upper.degrees) (AreBeside-transposed a c h.rings h.left))

pub matrix_sum-blocks : (a b c d e f g h : Matrix) → 0 < a.ring.modulus → AreBlocks a b c d → AreParallel a e
    → AreParallel b f → AreParallel c g → AreParallel d h → IsMatrix a → IsMatrix b → IsMatrix c → IsMatrix d
    → IsMatrix e → IsMatrix f → IsMatrix g → IsMatrix h
    → matrix_sum (blocks a b c d) (blocks e f g h)
    ≡ blocks (matrix_sum a e) (matrix_sum b f) (matrix_sum c g) (matrix_sum d h)
matrix_sum-blocks a b c d e f g h positive k x y z w ma mb mc md me mf mg mh =
    let second : 0 < c.ring.modulus = subst (λ (q : Ring). 0 < q.modulus) k.rings positive in
    matrix_sum-stacked (beside a b) (beside c d) (beside e f) (beside g h) k.rings
    (AreParallel-beside a b e f positive k.upper x y)
    ∙ (λ i. stacked (matrix_sum-beside a b e f positive k.upper x y ma mb me mf i)
    (matrix_sum-beside c d g h second k.lower z w mc md mg mh i))
