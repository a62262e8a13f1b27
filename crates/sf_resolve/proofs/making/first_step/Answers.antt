use Rattle.sf_matrix.proofs.Plans.Rules.{meets_exit}
use Rattle.sf_resolve.proofs.StepMeets.{first_failed, first_met, presentable_basis}
use Rattle.sf_resolve.proofs.making.first_step.Goals as goal

pub returns-in_err-basis : goal.returns-in_err-basis
returns-in_err-basis g c = meets_exit c.from_residual.ensures.1 (first_failed c.args.relations.now c.in_err-basis.ensures)

pub minimal_rows-requires : goal.minimal_rows-requires
minimal_rows-requires g c = record { presentable = presentable_basis c.args.relations.now c.in_ok-basis.ensures }

pub returns : goal.returns
returns g c = first_met c.args.relations.now c.in_ok-basis.ensures c.minimal_rows.ensures
