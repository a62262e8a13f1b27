use Rattle.sf_matrix.proofs.Plans.Rules.{meets_exit}
use Rattle.sf_resolve.proofs.StepMeets.{next_failed, next_met, presentable_syzygies}
use Rattle.sf_resolve.proofs.making.next_step.Goals as goal

pub returns-in_err-syzygies : goal.returns-in_err-syzygies
returns-in_err-syzygies g c = meets_exit c.from_residual.ensures.1 (next_failed c.args.before.now c.in_err-syzygies.ensures)

pub minimal_rows-requires : goal.minimal_rows-requires
minimal_rows-requires g c = record { presentable = presentable_syzygies c.args.before.now c.in_ok-syzygies.ensures }

pub returns : goal.returns
returns g c = next_met c.args.before.now c.in_ok-syzygies.ensures c.minimal_rows.ensures
