use Rattle.std.proofs.Common.{◌≡◌, ◌+◌, ◌%◌, ◌^◌, Some, length, sum_by, take, slice_get, ap, ap₂, sym, ◌∙◌, rules}
use Rattle.std.proofs.lemmas.List.Sums.{sum_by_push}
use native.Mathlib.Nat.{mod-add-mod}
use Rattle.sf_algebra.specs.Vectors.{Vector}
use Rattle.sf_algebra.proofs.Basics.Lists.{take-slice_get}
use Rattle.algebra_bench.proofs.outcome.Outcome.of_matrix.Goals as goal

pub loop-i-preserved : goal.loop-i-preserved
loop-i-preserved c =
    let rows = c.args.matrix.now.rows in
    let row = c.row.result.now in
    let read : slice_get rows c.loop-i.i ≡ Some row = search rules in
    let count : c.of_vector-row.result.terms ≡ length row.terms = search rules in
    let more : sum_by (λ (v : Vector). length v.terms) (take (c.loop-i.i + 1) rows)
    ≡ sum_by (λ (v : Vector). length v.terms) (take c.loop-i.i rows) + length row.terms =
    ap (sum_by (λ (v : Vector). length v.terms)) (take-slice_get rows c.loop-i.i row read)
    ∙ sum_by_push (λ (v : Vector). length v.terms) (take c.loop-i.i rows) row in
    ap₂ (λ m n. (m + n) % 2 ^ 64) c.loop-i.invariant count
    ∙ mod-add-mod (sum_by (λ (v : Vector). length v.terms) (take c.loop-i.i rows)) (2 ^ 64) (length row.terms)
    ∙ ap (λ n. n % 2 ^ 64) (sym more)
