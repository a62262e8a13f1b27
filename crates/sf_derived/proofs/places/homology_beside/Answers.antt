use Rattle.std.proofs.Common.{refl}
use Rattle.sf_matrix.proofs.Plans.Rules.{meets_exit}
use Rattle.sf_module.proofs.HomologySteps.{homology_base_fails, homology_fails, homology_found, homology_presentable}
use Rattle.sf_derived.specs.Places.{tensor_place}
use Rattle.sf_derived.proofs.PlaceMaps.{boundaries_are, complex_at}
use Rattle.sf_derived.proofs.places.homology_beside.Goals as goal

pub returns-in_err-cycles : goal.returns-in_err-cycles
returns-in_err-cycles g c =
    meets_exit c.from_residual.ensures.1
    (homology_fails (tensor_place c.args.a.now c.args.b.now c.args.n.now) refl c.in_err-cycles.ensures)

pub returns-in_err-boundaries : goal.returns-in_err-boundaries
returns-in_err-boundaries g c =
    let whole = boundaries_are c.args.a.now c.args.b.now c.args.n.now c.requires.complex in
    meets_exit c.from_residual-in_err-boundaries.ensures.1
    (homology_base_fails (tensor_place c.args.a.now c.args.b.now c.args.n.now) refl c.in_ok-cycles.ensures whole
    c.in_err-boundaries.ensures)

pub present-requires : goal.present-requires
present-requires g c =
    let whole = boundaries_are c.args.a.now c.args.b.now c.args.n.now c.requires.complex in
    record {
      presentable =
          homology_presentable (tensor_place c.args.a.now c.args.b.now c.args.n.now) refl c.in_ok-cycles.ensures whole
          c.in_ok-boundaries.ensures (complex_at c.args.a.now c.args.b.now c.args.n.now c.requires.complex);
    }

pub returns : goal.returns
returns g c =
    let whole = boundaries_are c.args.a.now c.args.b.now c.args.n.now c.requires.complex in
    homology_found (tensor_place c.args.a.now c.args.b.now c.args.n.now) refl c.in_ok-cycles.ensures whole
    c.in_ok-boundaries.ensures c.present.ensures
