use Rattle.std.proofs.Common.{subst, arith}
use Rattle.sf_algebra.specs.Matrices.{IsMatrix}
use Rattle.sf_object.proofs.Shelves.{grew_stays, same_modules}
use Rattle.sf_derived.proofs.DerivedSteps.{beside_transposed, columns_negative, ext_fails, ext_found, ext_maps, ext_stops, in_usual, out_usual, rows_negative}
use Rattle.sf_derived.proofs.derived.ext.Goals as goal

pub returns-in_err-ensure-clause-meets : goal.returns-in_err-ensure-clause-meets
returns-in_err-ensure-clause-meets g c =
    ext_fails (omega arith) c.args.n.now c.in_err-ensure.ensures.meets _ c.from_residual.ensures.1

pub returns-in_err-ensure-clause-modules : goal.returns-in_err-ensure-clause-modules
returns-in_err-ensure-clause-modules g c = same_modules _ _ _ _ c.in_err-ensure.ensures.meets.grown

pub returns-in_err-map_out-clause-meets : goal.returns-in_err-map_out-clause-meets
returns-in_err-map_out-clause-meets g c =
    ext_stops (omega arith) c.args.n.now c.in_ok-ensure.ensures.meets _ c.from_residual-in_err-map_out.ensures.1

pub returns-in_err-map_out-clause-modules : goal.returns-in_err-map_out-clause-modules
returns-in_err-map_out-clause-modules g c = same_modules _ _ _ _ c.in_ok-ensure.ensures.meets.grown

pub transpose-requires-clause-columns : goal.transpose-requires-clause-columns
transpose-requires-clause-columns g c =
    columns_negative
    (out_usual (omega arith) c.args.n.now c.in_ok-ensure.ensures.meets c.requires.limit c.requires.usual
    c.in_ok-map_out.ensures)

pub transpose-requires-clause-rows : goal.transpose-requires-clause-rows
transpose-requires-clause-rows g c =
    rows_negative
    (out_usual (omega arith) c.args.n.now c.in_ok-ensure.ensures.meets c.requires.limit c.requires.usual
    c.in_ok-map_out.ensures)

pub returns-in_err-arriving-clause-meets : goal.returns-in_err-arriving-clause-meets
returns-in_err-arriving-clause-meets g c =
    ext_stops (omega arith) c.args.n.now c.in_ok-ensure.ensures.meets _ c.from_residual-in_err-arriving.ensures.1

pub returns-in_err-arriving-clause-modules : goal.returns-in_err-arriving-clause-modules
returns-in_err-arriving-clause-modules g c = same_modules _ _ _ _ c.in_ok-ensure.ensures.meets.grown

pub transpose-requires-2-clause-columns : goal.transpose-requires-2-clause-columns
transpose-requires-2-clause-columns g c =
    columns_negative
    (in_usual {i = c.args.i} (omega arith) c.args.n.now c.in_ok-ensure.ensures.meets c.requires.limit c.requires.usual
    c.step.ensures.step)

pub transpose-requires-2-clause-rows : goal.transpose-requires-2-clause-rows
transpose-requires-2-clause-rows g c =
    rows_negative
    (in_usual {i = c.args.i} (omega arith) c.args.n.now c.in_ok-ensure.ensures.meets c.requires.limit c.requires.usual
    c.step.ensures.step)

pub returns-in_err-leaving-clause-meets : goal.returns-in_err-leaving-clause-meets
returns-in_err-leaving-clause-meets g c =
    ext_stops (omega arith) c.args.n.now c.in_ok-ensure.ensures.meets _ c.from_residual-in_err-leaving.ensures.1

pub returns-in_err-leaving-clause-modules : goal.returns-in_err-leaving-clause-modules
returns-in_err-leaving-clause-modules g c = same_modules _ _ _ _ c.in_ok-ensure.ensures.meets.grown

pub homology_beside-requires-clause-complex : goal.homology_beside-requires-clause-complex
homology_beside-requires-clause-complex g c =
    ext_maps (omega arith) c.args.n.now c.in_ok-ensure.ensures.meets c.requires.limit c.requires.usual c.step.ensures.step
    c.in_ok-map_out.ensures c.in_ok-arriving.ensures.transposed c.in_ok-leaving.ensures.transposed
    (subst IsMatrix c.relations.ensures.relations c.matrix_facts.ensures.matrix)

pub homology_beside-requires-clause-first : goal.homology_beside-requires-clause-first
homology_beside-requires-clause-first g c =
    beside_transposed c.in_ok-ensure.ensures.meets.grown c.requires.usual
    c.in_ok-arriving.ensures.transposed
    (out_usual (omega arith) c.args.n.now c.in_ok-ensure.ensures.meets c.requires.limit c.requires.usual
    c.in_ok-map_out.ensures)

pub homology_beside-requires-clause-second : goal.homology_beside-requires-clause-second
homology_beside-requires-clause-second g c =
    beside_transposed c.in_ok-ensure.ensures.meets.grown c.requires.usual
    c.in_ok-leaving.ensures.transposed
    (in_usual {i = c.args.i} (omega arith) c.args.n.now c.in_ok-ensure.ensures.meets c.requires.limit c.requires.usual
    c.step.ensures.step)

pub returns-clause-meets : goal.returns-clause-meets
returns-clause-meets g c =
    ext_found (omega arith) c.args.n.now c.in_ok-ensure.ensures.meets c.requires.limit c.requires.usual c.step.ensures.step
    c.in_ok-map_out.ensures c.in_ok-arriving.ensures.transposed c.in_ok-leaving.ensures.transposed c.homology_beside.ensures

pub returns-clause-grew : goal.returns-clause-grew
returns-clause-grew g c = grew_stays _ c.homology_beside.ensures c.in_ok-ensure.ensures.grew

pub returns-clause-modules : goal.returns-clause-modules
returns-clause-modules g c = same_modules _ _ _ _ c.in_ok-ensure.ensures.meets.grown
