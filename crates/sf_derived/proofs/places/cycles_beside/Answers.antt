use Rattle.std.proofs.Common.{◌∙◌, [], ap}
use Rattle.sf_algebra.specs.Rings.{plain}
use Rattle.sf_groebner.specs.MinimalGenerators.{matrix_of}
use Rattle.sf_matrix.proofs.Plans.Rules.{meets_exit, meets_memory}
use Rattle.sf_derived.specs.Room.{columns_beside, rows_beside}
use Rattle.sf_derived.proofs.PlaceSteps.{cycles_beyond, cycles_none}
use Rattle.sf_derived.proofs.places.cycles_beside.Goals as goal

pub returns-then-rows-eq0 : goal.returns-then-rows-eq0
returns-then-rows-eq0 g c =
    let t = g.B.Bases.table c.args.bases.now in
    let b = c.args.b.now in
    let n = c.args.n.now in
    cycles_none t b n c.matrix_facts.ensures.field c.size_beside-rows.result.0
    (c.size_beside-rows.ensures.rows ∙ ap (rows_beside b) c.relations.ensures.relations)
    c.if-rows-eq0.true c.new-then-rows-eq0.result (plain c.modulus.result) c.modulus.ensures.ring
    (c.new-then-rows-eq0.ensures.empty ∙ ap (λ ds. matrix_of (plain c.modulus.result) ds []) c.new.ensures.empty)

pub returns-in-Some : goal.returns-in-Some
returns-in-Some g c =
    cycles_beyond (g.B.Bases.table c.args.bases.now) c.args.b.now c.args.n.now c.matrix_facts.ensures.field
    (c.size_beside-rows.ensures.rows ∙ ap (rows_beside c.args.b.now) c.relations.ensures.relations)
    (c.size_beside-rows.ensures.columns ∙ ap (columns_beside c.args.b.now) c.relations.ensures.relations) c.in-Some.ensures

pub returns-in_err-map : goal.returns-in_err-map
returns-in_err-map g c = meets_exit c.from_residual.ensures.1 meets_memory

pub returns-in_err-beyond : goal.returns-in_err-beyond
returns-in_err-beyond g c = meets_exit c.from_residual-in_err-beyond.ensures.1 meets_memory
