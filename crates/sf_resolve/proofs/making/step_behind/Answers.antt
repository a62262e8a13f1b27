use Rattle.std.proofs.Common.{sym, ◌∙◌, ap}
use Rattle.std.specs.Option.{option_copied}
use Rattle.sf_resolve.proofs.StepMeets.{behind_last}
use Rattle.sf_resolve.proofs.making.step_behind.Goals as goal

pub returns-in-Some : goal.returns-in-Some
returns-in-Some g c =
    behind_last c.args.relations.now c.args.steps.now c.in-Some.before.now
    (sym c.last.ensures.value ∙ ap option_copied c.in-Some.is) c.next_step.ensures
