use Rattle.std.proofs.Common.{◌≡◌, ◌++◌, ◌+ℤ◌, pos, get_or, map, rules, sym, subst, ◌∙◌, to_z, of_z, w32}
use Rattle.std.specs.List.{AllByRecursion}
use Rattle.std.proofs.lemmas.Option.{slice_get-get_or}
use Rattle.sf_algebra.proofs.Basics.Lists.{AllByRecursion-get}
use Rattle.sf_matrix.specs.Bounds.{IsDegree}
use Rattle.sf_matrix.proofs.Pieces.{flat_map-take}
use Rattle.sf_matrix.proofs.matrix.kron.degree_sums.Goals as goal

pub push_degree_sums-requires : goal.push_degree_sums-requires
push_degree_sums-requires c =
    let d = get_or c.args.first.now c.loop-degree.degree-index (pos 0) in
    let read = slice_get-get_or c.args.first.now c.loop-degree.degree-index (pos 0) c.loop-degree-test.true in
    let same : to_z w32 (of_z w32 d) ≡ d = search rules in
    subst (λ n. AllByRecursion (λ e. IsDegree (n +ℤ e)) c.args.second.now) (sym same) (AllByRecursion-get _ c.args.first.now c.loop-degree.degree-index d c.requires read)

pub loop-degree-preserved : goal.loop-degree-preserved
loop-degree-preserved c =
    let d = get_or c.args.first.now c.loop-degree.degree-index (pos 0) in
    let read = slice_get-get_or c.args.first.now c.loop-degree.degree-index (pos 0) c.loop-degree-test.true in
    let same : to_z w32 (of_z w32 d) ≡ d = search rules in
    c.in_ok-push_degree_sums.ensures.ok
    ∙ (λ l. c.loop-degree.invariant l ++ map (λ e. same l +ℤ e) c.args.second.now)
    ∙ sym (flat_map-take (λ n. map (λ e. n +ℤ e) c.args.second.now) c.args.first.now c.loop-degree.degree-index d read)
