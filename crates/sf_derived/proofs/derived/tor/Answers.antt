use Rattle.std.proofs.Common.{subst, arith}
use Rattle.sf_algebra.specs.Matrices.{IsMatrix}
use Rattle.sf_object.proofs.Shelves.{grew_stays, same_modules}
use Rattle.sf_derived.proofs.DerivedSteps.{beside, in_usual, out_usual, tor_fails, tor_found, tor_maps, tor_stops}
use Rattle.sf_derived.proofs.derived.tor.Goals as goal

pub returns-in_err-ensure-clause-meets : goal.returns-in_err-ensure-clause-meets
returns-in_err-ensure-clause-meets g c =
    tor_fails (omega arith) c.args.n.now c.in_err-ensure.ensures.meets _ c.from_residual.ensures.1

pub returns-in_err-ensure-clause-modules : goal.returns-in_err-ensure-clause-modules
returns-in_err-ensure-clause-modules g c = same_modules _ _ _ _ c.in_err-ensure.ensures.meets.grown

pub returns-in_err-leaving-clause-meets : goal.returns-in_err-leaving-clause-meets
returns-in_err-leaving-clause-meets g c =
    tor_stops (omega arith) c.args.n.now c.in_ok-ensure.ensures.meets _ c.from_residual-in_err-leaving.ensures.1

pub returns-in_err-leaving-clause-modules : goal.returns-in_err-leaving-clause-modules
returns-in_err-leaving-clause-modules g c = same_modules _ _ _ _ c.in_ok-ensure.ensures.meets.grown

pub homology_beside-requires-clause-complex : goal.homology_beside-requires-clause-complex
homology_beside-requires-clause-complex g c =
    tor_maps (omega arith) c.args.n.now c.in_ok-ensure.ensures.meets c.requires.limit c.requires.usual
    c.step-arriving.ensures.step c.in_ok-leaving.ensures
    (subst IsMatrix c.relations.ensures.relations c.matrix_facts.ensures.matrix)

pub homology_beside-requires-clause-first : goal.homology_beside-requires-clause-first
homology_beside-requires-clause-first g c =
    beside c.in_ok-ensure.ensures.meets.grown c.requires.usual
    (in_usual {i = c.args.i} (omega arith) c.args.n.now c.in_ok-ensure.ensures.meets c.requires.limit c.requires.usual
    c.step-arriving.ensures.step)

pub homology_beside-requires-clause-second : goal.homology_beside-requires-clause-second
homology_beside-requires-clause-second g c =
    beside c.in_ok-ensure.ensures.meets.grown c.requires.usual
    (out_usual (omega arith) c.args.n.now c.in_ok-ensure.ensures.meets c.requires.limit c.requires.usual
    c.in_ok-leaving.ensures)

pub returns-clause-meets : goal.returns-clause-meets
returns-clause-meets g c =
    tor_found (omega arith) c.args.n.now c.in_ok-ensure.ensures.meets c.requires.limit c.requires.usual
    c.step-arriving.ensures.step c.in_ok-leaving.ensures c.homology_beside.ensures

pub returns-clause-grew : goal.returns-clause-grew
returns-clause-grew g c = grew_stays _ c.homology_beside.ensures c.in_ok-ensure.ensures.grew

pub returns-clause-modules : goal.returns-clause-modules
returns-clause-modules g c = same_modules _ _ _ _ c.in_ok-ensure.ensures.meets.grown
