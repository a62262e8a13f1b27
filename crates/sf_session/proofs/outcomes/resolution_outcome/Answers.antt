use Rattle.std.proofs.Common.{refl}
use Rattle.sf_matrix.proofs.Plans.Rules.{meets_cut, meets_memory}
use Rattle.sf_object.proofs.Shelves.{grew_opened, opened_there}
use Rattle.sf_script.specs.declared.checked.Checked.TheVariants.{Resolves}
use Rattle.sf_session.proofs.Settling.{settled, settles_exit}
use Rattle.sf_session.proofs.ShelfSteps.{steps_met, steps_told}
use Rattle.sf_session.proofs.outcomes.resolution_outcome.Goals as goal

pub returns-in_err-id-clause-settles : goal.returns-in_err-id-clause-settles
returns-in_err-id-clause-settles g c =
    settles_exit (Resolves c.args.given c.args.k) c.from_residual.ensures.1 meets_memory

pub ensure-requires-clause-module : goal.ensure-requires-clause-module
ensure-requires-clause-module g c = opened_there c.args.given c.in_ok-id.id c.in_ok-id.ensures

pub ensure-requires-clause-grew : goal.ensure-requires-clause-grew
ensure-requires-clause-grew g c = grew_opened _ _ c.args.given c.open.result c.open.ensures c.requires.grew

pub returns-in_err-ensure-clause-settles : goal.returns-in_err-ensure-clause-settles
returns-in_err-ensure-clause-settles g c =
    settles_exit (Resolves c.args.given c.args.k) c.from_residual-in_err-ensure.ensures.1
    (steps_met c.in_ok-id.ensures c.in_err-ensure.ensures.meets)

pub returns-in_err-steps-clause-settles : goal.returns-in_err-steps-clause-settles
returns-in_err-steps-clause-settles g c =
    settles_exit (Resolves c.args.given c.args.k) c.from_residual-in_err-steps.ensures.1
    (meets_cut (steps_met c.in_ok-id.ensures c.in_ok-ensure.ensures.meets))

pub returns-clause-settles : goal.returns-clause-settles
returns-clause-settles g c =
    settled (Resolves c.args.given c.args.k) c.in_ok-steps.steps
    (steps_told c.in_ok-steps.ensures c.in_ok-id.ensures c.in_ok-ensure.ensures.meets) refl
