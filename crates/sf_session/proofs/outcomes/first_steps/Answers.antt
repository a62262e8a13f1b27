use Rattle.std.proofs.Common.{rules, ◌≡◌, ◌∙◌, ◌∷◌, ◌++◌, [], List, ap, sym}
use Rattle.sf_algebra.specs.Matrices.{Matrix}
use Rattle.sf_session.proofs.ShelfSteps.{steps_next}
use Rattle.sf_session.proofs.outcomes.first_steps.Goals as goal

pub loop-before-preserved : goal.loop-before-preserved
loop-before-preserved g c =
    let step = c.step.result.now in
    let pushed : c.push.new.self ≡ c.loop-before.steps ++ c.in_ok-copy.field-0 ∷ [] = search rules in
    pushed
    ∙ ap (λ (m : Matrix). c.loop-before.steps ++ m ∷ []) c.in_ok-copy.ensures.equal
    ∙ ap (λ (ms : List Matrix). ms ++ step ∷ []) c.loop-before.invariant
    ∙ sym (steps_next (g.S.Steps.shelf c.args.shelf.now) c.args.id c.loop-before.before step c.step.ensures.step)
