use Rattle.sf_matrix.proofs.Plans.Rules.{meets_exit, meets_memory}
use Rattle.sf_module.proofs.ModuleSteps.{image_base_fails, image_fails, image_found, image_presentable}
use Rattle.sf_module.proofs.modules.image.Goals as goal

pub returns-in_err-rows : goal.returns-in_err-rows
returns-in_err-rows g c = meets_exit c.from_residual.ensures.1 meets_memory

pub returns-in_err-whole : goal.returns-in_err-whole
returns-in_err-whole g c =
    meets_exit c.from_residual-in_err-whole.ensures.1
    (image_fails c.args.f.now c.in_ok-rows.ensures.stacked c.relations-relations.ensures.relations c.in_err-whole.ensures)

pub returns-in_err-base : goal.returns-in_err-base
returns-in_err-base g c =
    meets_exit c.from_residual-in_err-base.ensures.1
    (image_base_fails c.args.f.now c.in_ok-rows.ensures.stacked c.relations-relations.ensures.relations c.in_ok-whole.ensures
    c.in_err-base.ensures)

pub present-requires : goal.present-requires
present-requires g c = record {
  presentable =
      image_presentable c.args.f.now c.in_ok-rows.ensures.stacked c.relations-relations.ensures.relations
      c.in_ok-whole.ensures c.in_ok-base.ensures c.requires.between;
}

pub returns : goal.returns
returns g c =
    image_found c.args.f.now c.in_ok-rows.ensures.stacked c.relations-relations.ensures.relations c.in_ok-whole.ensures
    c.in_ok-base.ensures c.present.ensures
