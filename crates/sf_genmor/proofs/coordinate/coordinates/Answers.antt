use Rattle.std.proofs.Common.{◌∙◌, ap}
use Rattle.sf_algebra.specs.MatrixOperations.{vector_part}
use Rattle.sf_matrix.proofs.Plans.Rules.{looked_now, meets_exit, meets_memory}
use Rattle.sf_genmor.proofs.CoordinateSteps.{coordinates_cut, coordinates_failed, coordinates_none, coordinates_some, coordinates_told}
use Rattle.sf_genmor.proofs.coordinate.coordinates.Goals as goal

pub returns-in_err-stack-clause-meets : goal.returns-in_err-stack-clause-meets
returns-in_err-stack-clause-meets g c = meets_exit c.from_residual.ensures.1 meets_memory

pub returns-in_err-entry-clause-meets : goal.returns-in_err-entry-clause-meets
returns-in_err-entry-clause-meets g c =
    meets_exit c.from_residual-in_err-entry.ensures.1
    (coordinates_failed c.args.generators.now c.args.base.now c.args.v.now c.in_ok-stack.ensures.stacked c.in_err-entry.ensures.looked)

pub reduced-requires-clause-entry : goal.reduced-requires-clause-entry
reduced-requires-clause-entry g c = looked_now c.in_ok-entry.ensures.looked

pub returns-in_err-rest-clause-meets : goal.returns-in_err-rest-clause-meets
returns-in_err-rest-clause-meets g c =
    meets_exit c.from_residual-in_err-rest.ensures.1
    (coordinates_cut c.args.generators.now c.args.base.now c.args.v.now c.in_ok-stack.ensures.stacked c.in_ok-entry.ensures.looked)

pub returns-in_err-part-clause-meets : goal.returns-in_err-part-clause-meets
returns-in_err-part-clause-meets g c =
    meets_exit c.from_residual-in_err-part.ensures.1
    (coordinates_cut c.args.generators.now c.args.base.now c.args.v.now c.in_ok-stack.ensures.stacked c.in_ok-entry.ensures.looked)

pub returns-then-is_empty-clause-meets : goal.returns-then-is_empty-clause-meets
returns-then-is_empty-clause-meets g c =
    let coefficients = c.in_ok-rest.coefficients in
    coordinates_some c.args.generators.now c.args.base.now c.args.v.now c.in_ok-stack.ensures.stacked
    c.in_ok-entry.ensures.looked c.requires.vector c.in_ok-rest.ensures.reduction c.if-is_empty.ensures.empty
    (c.in_ok-part.ensures.part ∙ ap (λ n. vector_part 0 n coefficients) c.rows-end.ensures.len)

pub returns-then-is_empty-clause-tells : goal.returns-then-is_empty-clause-tells
returns-then-is_empty-clause-tells g c =
    coordinates_told c.args.generators.now c.args.base.now c.args.relations.now c.args.v.now c.requires.ring
    c.requires.target c.requires.relations (returns-then-is_empty-clause-meets g c)

pub returns-clause-meets : goal.returns-clause-meets
returns-clause-meets g c =
    coordinates_none c.args.generators.now c.args.base.now c.args.v.now c.in_ok-stack.ensures.stacked
    c.in_ok-entry.ensures.looked c.requires.vector c.in_ok-rest.ensures.reduction c.if-is_empty.ensures.empty

pub returns-clause-tells : goal.returns-clause-tells
returns-clause-tells g c =
    coordinates_told c.args.generators.now c.args.base.now c.args.relations.now c.args.v.now c.requires.ring
    c.requires.target c.requires.relations (returns-clause-meets g c)
