use Rattle.std.proofs.Common.{◌≡◌, ◌++◌, ◌∷◌, [], get_or, slice_set, neg_ℤ, pos, ◌+◌, to_z, of_z, w32, rules, sym, subst, ◌∙◌}
use Rattle.sf_matrix.proofs.ColumnVectors.{IsTurning, IsTurning-next}
use Rattle.sf_matrix.proofs.matrix.transpose.rows_of.Goals as goal

pub loop-j-preserved : goal.loop-j-preserved
loop-j-preserved c =
    let d = get_or c.args.degrees.now c.loop-j.j (pos 0) in
    let column = c.index_mut.result.now in
    let step = IsTurning-next c.args.degrees.now c.args.columns.items c.loop-j.rows.items c.loop-j.columns.items c.loop-j.j c.loop-j.invariant c.requires.length c.loop-j-test.true d column c.replace-column.new.dest (search rules) c.index_mut.ensures.value in
    let terms = c.into_vec.ensures.items ∙ c.replace-column.ensures.value in
    let degree : to_z w32 (of_z w32 c.negative_degree.result) ≡ neg_ℤ d = search rules in
    let pushed : c.push.new.self.items ≡ c.loop-j.rows.items ++ record {
      degree =
          neg_ℤ d;
      terms = column;
    } ∷ [] = c.in_ok-push.ensures.items ∙ (λ l. c.loop-j.rows.items ++ record { degree = degree l; terms = terms l } ∷ []) in
    subst (λ rows. IsTurning c.args.degrees.now c.args.columns.items rows (slice_set c.loop-j.columns.items c.loop-j.j c.replace-column.new.dest) (c.loop-j.j + 1)) (sym pushed) step
