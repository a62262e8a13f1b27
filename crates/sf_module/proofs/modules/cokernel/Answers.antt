use Rattle.sf_matrix.proofs.Plans.Rules.{meets_exit, meets_memory}
use Rattle.sf_module.proofs.ModuleSteps.{cokernel_found}
use Rattle.sf_module.proofs.modules.cokernel.Goals as goal

pub returns-in_err-rows : goal.returns-in_err-rows
returns-in_err-rows g c = meets_exit c.from_residual.ensures.1 meets_memory

pub returns : goal.returns
returns g c =
    cokernel_found c.args.f.now c.in_ok-rows.ensures.stacked c.relations.ensures.relations c.present_quotient.ensures
