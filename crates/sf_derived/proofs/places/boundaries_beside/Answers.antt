use Rattle.std.proofs.Common.{◌∙◌, ap}
use Rattle.sf_matrix.proofs.Plans.Rules.{meets_exit, meets_memory}
use Rattle.sf_derived.specs.Room.{columns_beside, rows_beside}
use Rattle.sf_derived.proofs.PlaceSteps.{boundaries_beyond}
use Rattle.sf_derived.proofs.places.boundaries_beside.Goals as goal

pub returns-in-Some : goal.returns-in-Some
returns-in-Some g c =
    boundaries_beyond (g.B.Bases.table c.args.bases.now) c.args.a.now c.args.n.now c.matrix_facts.ensures.field
    (c.size_beside-rows.ensures.rows ∙ ap (rows_beside c.args.a.now) c.relations.ensures.relations)
    (c.size_beside-rows.ensures.columns ∙ ap (columns_beside c.args.a.now) c.relations.ensures.relations) c.in-Some.ensures

pub returns-in_err-map : goal.returns-in_err-map
returns-in_err-map g c = meets_exit c.from_residual.ensures.1 meets_memory

pub returns-in_err-here : goal.returns-in_err-here
returns-in_err-here g c = meets_exit c.from_residual-in_err-here.ensures.1 meets_memory

pub returns-in_err-stack : goal.returns-in_err-stack
returns-in_err-stack g c = meets_exit c.from_residual-in_err-stack.ensures.1 meets_memory
