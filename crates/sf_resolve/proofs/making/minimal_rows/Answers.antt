use Rattle.std.proofs.Common.{rules}
use Rattle.sf_matrix.proofs.Plans.Rules.{meets_exit, meets_memory}
use Rattle.sf_resolve.proofs.StepMeets.{minimal_met}
use Rattle.sf_resolve.proofs.making.minimal_rows.Goals as goal

pub returns-in_err-copy : goal.returns-in_err-copy
returns-in_err-copy g c = meets_exit c.from_residual.ensures.1 meets_memory

pub returns : goal.returns
returns g c = minimal_met c.args.basis.now c.new-none.result (search rules) c.minimal_generators.ensures
