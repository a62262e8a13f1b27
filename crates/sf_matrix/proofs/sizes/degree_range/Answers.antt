use Rattle.std.proofs.Common.{◌≡◌, ◌+◌, ◌∷◌, [], ◌++◌, ap, sym, ◌∙◌, slice_index_or, take, pos, to_z, of_z, w32, append_assoc, rules}
use Rattle.std.proofs.lemmas.List.{take_more}
use Rattle.std.specs.Int.{int_max, int_min}
use Rattle.sf_algebra.specs.Matrices.{degrees_of, row_degrees}
use Rattle.sf_algebra.specs.Vectors.{Vector}
use Rattle.sf_matrix.proofs.Pieces.{map-take}
use Rattle.sf_matrix.proofs.DegreeRanges.{AreFrom-more}
use Rattle.sf_matrix.proofs.sizes.degree_range.Goals as goal

pub loop-i-preserved : goal.loop-i-preserved
loop-i-preserved c =
    let row = map-take (λ (v : Vector). v.degree) c.args.m.now.rows c.loop-i.i c.row.result.now c.row.ensures.row in
    let degree : to_z w32 (of_z w32 c.degree-degree.result) ≡ c.row.result.now.degree = search rules in
    let low : to_z w32 (of_z w32 c.min-low.result) ≡ c.min-low.result = search rules in
    let high : to_z w32 (of_z w32 c.max-high.result) ≡ c.max-high.result = search rules in
    AreFrom-more (to_z w32 c.loop-i.low-bits) (to_z w32 c.loop-i.high-bits) c.row.result.now.degree _ _ (degrees_of (take c.loop-i.i c.args.m.now.rows)) _ c.loop-i.invariant
    (low ∙ c.min-low.ensures.value ∙ ap (int_min (to_z w32 c.loop-i.low-bits)) degree)
    (high ∙ c.max-high.ensures.value ∙ ap (int_max (to_z w32 c.loop-i.high-bits)) degree) row

pub loop-degree-preserved : goal.loop-degree-preserved
loop-degree-preserved c =
    let ds = row_degrees c.args.m.now in
    let items = c.as_slice-degree-items.result.now in
    let target : items ≡ c.args.m.now.target = c.as_slice-degree-items.ensures.items ∙ c.target.ensures.target in
    let k = c.loop-degree.degree-index in
    let d = slice_index_or items k (pos 0) in
    let degree : to_z w32 (of_z w32 d) ≡ d = search rules in
    let low : to_z w32 (of_z w32 c.min-low-in-loop-degree.result) ≡ c.min-low-in-loop-degree.result = search rules in
    let high : to_z w32 (of_z w32 c.max-high-in-loop-degree.result) ≡ c.max-high-in-loop-degree.result = search rules in
    let more : ds ++ take (k + 1) c.args.m.now.target ≡ (ds ++ take k c.args.m.now.target) ++ d ∷ [] =
    ap (λ es. ds ++ take (k + 1) es) (sym target)
    ∙ ap (λ es. ds ++ es) (take_more items k (pos 0) c.loop-degree-test.true)
    ∙ sym (append_assoc ds (take k items) (d ∷ []))
    ∙ ap (λ es. (ds ++ take k es) ++ d ∷ []) target in
    AreFrom-more (to_z w32 c.loop-degree.low-bits) (to_z w32 c.loop-degree.high-bits) d _ _ (ds ++ take k c.args.m.now.target) _ c.loop-degree.invariant
    (low ∙ c.min-low-in-loop-degree.ensures.value ∙ ap (int_min (to_z w32 c.loop-degree.low-bits)) degree)
    (high ∙ c.max-high-in-loop-degree.ensures.value ∙ ap (int_max (to_z w32 c.loop-degree.high-bits)) degree) more
