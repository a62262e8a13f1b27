use Rattle.std.proofs.Common.{◌∙◌, ap}
use Rattle.sf_algebra.specs.MatrixOperations.{stacked}
use Rattle.sf_matrix.proofs.Plans.Rules.{meets_exit}
use Rattle.sf_module.specs.HomologyPlans.{place_between}
use Rattle.sf_module.proofs.HomologySteps.{homology_base_fails, homology_cut, homology_fails, homology_found, homology_presentable}
use Rattle.sf_module.proofs.modules.homology.Goals as goal

pub returns-in_err-cycles : goal.returns-in_err-cycles
returns-in_err-cycles g c =
    let place = place_between c.args.before.now c.args.here.now c.args.after.now c.args.beyond.now in
    meets_exit c.from_residual.ensures.1 (homology_fails place c.relations.ensures.relations c.in_err-cycles.ensures)

pub returns-in_err-rows : goal.returns-in_err-rows
returns-in_err-rows g c =
    let place = place_between c.args.before.now c.args.here.now c.args.after.now c.args.beyond.now in
    meets_exit c.from_residual-in_err-rows.ensures.1 (homology_cut place c.relations.ensures.relations c.in_ok-cycles.ensures)

pub returns-in_err-boundaries : goal.returns-in_err-boundaries
returns-in_err-boundaries g c =
    let place = place_between c.args.before.now c.args.here.now c.args.after.now c.args.beyond.now in
    let rows = c.in_ok-rows.ensures.stacked ∙ ap (stacked c.args.before.now) c.relations-2.ensures.relations in
    meets_exit c.from_residual-in_err-boundaries.ensures.1
    (homology_base_fails place c.relations.ensures.relations c.in_ok-cycles.ensures rows c.in_err-boundaries.ensures)

pub present-requires : goal.present-requires
present-requires g c =
    let place = place_between c.args.before.now c.args.here.now c.args.after.now c.args.beyond.now in
    let rows = c.in_ok-rows.ensures.stacked ∙ ap (stacked c.args.before.now) c.relations-2.ensures.relations in
    record {
      presentable =
          homology_presentable place c.relations.ensures.relations c.in_ok-cycles.ensures rows c.in_ok-boundaries.ensures
          c.requires.complex;
    }

pub returns : goal.returns
returns g c =
    let place = place_between c.args.before.now c.args.here.now c.args.after.now c.args.beyond.now in
    let rows = c.in_ok-rows.ensures.stacked ∙ ap (stacked c.args.before.now) c.relations-2.ensures.relations in
    homology_found place c.relations.ensures.relations c.in_ok-cycles.ensures rows c.in_ok-boundaries.ensures c.present.ensures
