use Rattle.std.proofs.Common.{rules, refl}
use Rattle.sf_matrix.proofs.Plans.Rules.{meets_exit}
use Rattle.sf_object.specs.Faults.{map_of}
use Rattle.sf_object.proofs.FaultSteps.{images_room, map_cut, map_failed, map_found}
use Rattle.sf_object.proofs.faults.image_fault.Goals as goal

pub returns-in_err-entry-clause-meets : goal.returns-in_err-entry-clause-meets
returns-in_err-entry-clause-meets g c =
    meets_exit c.from_residual.ensures.1
    (map_failed (map_of c.args.source.now c.args.matrix.now c.args.target.now) refl c.in_err-entry.ensures.looked)

pub returns-in_err-images-clause-meets : goal.returns-in_err-images-clause-meets
returns-in_err-images-clause-meets g c =
    meets_exit c.from_residual-in_err-images.ensures.1
    (map_cut (map_of c.args.source.now c.args.matrix.now c.args.target.now) refl c.in_ok-entry.ensures.looked)

pub returns-in_err-first_outside-clause-meets : goal.returns-in_err-first_outside-clause-meets
returns-in_err-first_outside-clause-meets g c =
    meets_exit c.from_residual-in_err-first_outside.ensures.1
    (map_cut (map_of c.args.source.now c.args.matrix.now c.args.target.now) refl c.in_ok-entry.ensures.looked)

pub first_outside-requires-clause-room : goal.first_outside-requires-clause-room
first_outside-requires-clause-room g c =
    images_room (map_of c.args.source.now c.args.matrix.now c.args.target.now) c.requires.room c.in_ok-images.images (search rules)

pub returns-clause-meets : goal.returns-clause-meets
returns-clause-meets g c =
    map_found (map_of c.args.source.now c.args.matrix.now c.args.target.now) refl _ c.requires.between c.in_ok-entry.ensures.looked
    (search rules) c.matrix_facts.ensures.matrix (search rules)
