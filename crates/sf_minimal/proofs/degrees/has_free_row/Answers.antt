use Rattle.std.proofs.Common.{◌≡◌, true, false, below_more, length, ap, sym, ◌∙◌, to_z, of_z, w32, w64, rules}
use Rattle.sf_algebra.specs.Matrices.{row_degrees}
use Rattle.sf_algebra.specs.Vectors.{generator_degree}
use Rattle.sf_minimal.specs.Steps.{is_taken}
use Rattle.sf_minimal.proofs.VectorRows.{generator_degree-slice_get}
use Rattle.sf_minimal.proofs.degrees.has_free_row.Goals as goal
use Rattle.sf_minimal.proofs.degrees.has_free_row.Goals.{else-from-degree-via-then-from-degree+else-not-has_pivot, else-from-degree-via-else-from-degree}

pub loop-i-preserved : goal.loop-i-preserved
loop-i-preserved c =
    let m = c.args.m.now in
    let row = generator_degree-slice_get m.rows c.loop-i.i c.row.result.now c.row.ensures.row in
    let own : to_z w32 (of_z w32 c.degree.result) ≡ c.row.result.now.degree = search rules in
    let value : to_z w64 (of_z w64 c.args.degree) ≡ c.args.degree = search rules in
    below_more
    (λ k. to_z w64 (of_z w64 c.args.degree) ≡ generator_degree (row_degrees m) k → is_taken c.args.taken.now (length m.rows) k ≡ false → ⊥)
    c.loop-i.i c.loop-i.invariant
    (elim c.else-from-degree.branch [
      | else-from-degree-via-then-from-degree+else-not-has_pivot w ↦
          λ e free.
          let clash : true ≡ false =
          sym w.if-not-has_pivot.false ∙ w.has_pivot.ensures.taken
          ∙ ap (λ n. is_taken c.args.taken.now n c.loop-i.i) w.rows.ensures.len ∙ free in
          cc
      | else-from-degree-via-else-from-degree w ↦
          λ e free. w.if-from-degree.false (ap (of_z w64) (c.from.ensures ∙ own ∙ sym row ∙ sym e ∙ value))
    ])
