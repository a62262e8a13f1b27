use Rattle.sf_matrix.proofs.Plans.Rules.{meets_exit}
use Rattle.sf_module.proofs.HomologySteps.{kernel_base_fails, kernel_fails, kernel_found, kernel_presentable}
use Rattle.sf_module.proofs.modules.kernel.Goals as goal

pub returns-in_err-cycles : goal.returns-in_err-cycles
returns-in_err-cycles g c =
    meets_exit c.from_residual.ensures.1 (kernel_fails c.args.f.now c.relations.ensures.relations c.in_err-cycles.ensures)

pub returns-in_err-base : goal.returns-in_err-base
returns-in_err-base g c =
    meets_exit c.from_residual-in_err-base.ensures.1
    (kernel_base_fails c.args.f.now c.relations.ensures.relations c.in_ok-cycles.ensures c.relations-2.ensures.relations
    c.in_err-base.ensures)

pub present-requires : goal.present-requires
present-requires g c = record {
  presentable =
      kernel_presentable c.args.f.now c.relations.ensures.relations c.in_ok-cycles.ensures c.relations-2.ensures.relations
      c.in_ok-base.ensures c.requires.map;
}

pub returns : goal.returns
returns g c =
    kernel_found c.args.f.now c.relations.ensures.relations c.in_ok-cycles.ensures c.relations-2.ensures.relations
    c.in_ok-base.ensures c.present.ensures
