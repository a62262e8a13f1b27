use Rattle.std.proofs.Common.{◌++◌, ◌∷◌, [], sym, ap, ◌∙◌}
use Rattle.sf_minimal.proofs.FreeNumbers.{free-next, taken-next}
use Rattle.sf_minimal.proofs.minimal.numbers_of.Goals as goal
use Rattle.sf_minimal.proofs.minimal.numbers_of.Goals.{then-not-has_pivot+in_ok-push, else-not-has_pivot}

pub loop-i-preserved : goal.loop-i-preserved
loop-i-preserved c =
    let rows = c.args.pivots.now.rows in
    let n = c.args.rows in
    let i = c.loop-i.i in
    let leads = c.in_ok-leads.leads in
    let same = c.in_ok-leads.ensures.leads in
    elim c.if-not-has_pivot.branch [
      | then-not-has_pivot+in_ok-push w ↦
          ap (λ v. v.items) w.numbers-is
          ∙ w.in_ok-push.ensures.items
          ∙ ap (λ l. l ++ i ∷ []) c.loop-i.invariant
          ∙ sym (free-next rows c.requires.pivots.monic n i leads same (sym c.has_pivot.ensures.taken ∙ w.if-not-has_pivot.true))
      | else-not-has_pivot w ↦
          ap (λ v. v.items) w.numbers-is
          ∙ c.loop-i.invariant
          ∙ sym (taken-next rows c.requires.pivots.monic n i leads same (sym c.has_pivot.ensures.taken ∙ w.if-not-has_pivot.false))
    ]
