use Rattle.std.proofs.Common.{◌≡◌, ◌++◌, ◌∷◌, [], sym, ◌∙◌, to_z, of_z, w32, w64, rules}
use Rattle.sf_pairs.specs.Queue.{pair_of}
use Rattle.sf_buchberger.proofs.Starts.{queued_inputs-next}
use Rattle.sf_buchberger.proofs.growth.start.waiting_inputs.Goals as goal

pub loop-k-preserved : goal.loop-k-preserved
loop-k-preserved c =
    let degree : to_z w64 (of_z w64 c.from-degree.result) ≡ c.from-degree.result = search rules in
    let small : to_z w32 (of_z w32 c.degree.result) ≡ c.degree.result = search rules in
    let its_degree = degree ∙ c.from-degree.ensures ∙ small ∙ c.degree.ensures.degree in
    c.in_ok-push.ensures.ok
    ∙ (λ i. c.loop-k.invariant i ++ pair_of (its_degree i) c.loop-k.k c.loop-k.k ∷ [])
    ∙ sym (queued_inputs-next c.args.generators.now.rows c.loop-k.k c.row.result.now c.row.ensures.row)
