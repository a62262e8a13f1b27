use Rattle.std.proofs.Common.{length, rules, sym, ◌∙◌, ap, arith}
use Rattle.sf_matrix.proofs.Plans.Rules.{meets_exit}
use Rattle.sf_object.proofs.ComplexSteps.{all_hold, complex_failed, complex_goes_on, complex_told, goes_on_first, law_of, square_room, square_stands}
use Rattle.sf_object.proofs.complex.complex_fault.Goals as goal

pub loop-k-init : goal.loop-k-init
loop-k-init g c = goes_on_first c.args.c.now _

pub image_fault-requires-clause-between : goal.image_fault-requires-clause-between
image_fault-requires-clause-between g c =
    let law =
    law_of c.args.c.now c.loop-k.k c.as_slice-maps.result.now c.index-maps-k-in-loop-k.result c.index-maps-k.result
    c.relations.result.now (search rules) (omega arith) (omega arith) c.index-maps-k.is c.index-maps-k-in-loop-k.is
    c.relations.ensures.relations in
    square_stands c.args.c.now c.loop-k.k _ _ _ law c.requires.chain

pub image_fault-requires-clause-room : goal.image_fault-requires-clause-room
image_fault-requires-clause-room g c =
    let law =
    law_of c.args.c.now c.loop-k.k c.as_slice-maps.result.now c.index-maps-k-in-loop-k.result c.index-maps-k.result
    c.relations.result.now (search rules) (omega arith) (omega arith) c.index-maps-k.is c.index-maps-k-in-loop-k.is
    c.relations.ensures.relations in
    square_room c.args.c.now c.loop-k.k _ _ _ law c.requires.room

pub returns-in_err-outside-clause-meets : goal.returns-in_err-outside-clause-meets
returns-in_err-outside-clause-meets g c =
    let law =
    law_of c.args.c.now c.loop-k.k c.as_slice-maps.result.now c.index-maps-k-in-loop-k.result c.index-maps-k.result
    c.relations.result.now (search rules) (omega arith) (omega arith) c.index-maps-k.is c.index-maps-k-in-loop-k.is
    c.relations.ensures.relations in
    meets_exit c.from_residual.ensures.1
    (complex_failed c.args.c.now c.loop-k.k _ _ _ law c.loop-k.invariant c.in_err-outside.ensures.meets)

pub returns-then-is_some-clause-meets : goal.returns-then-is_some-clause-meets
returns-then-is_some-clause-meets g c =
    let law =
    law_of c.args.c.now c.loop-k.k c.as_slice-maps.result.now c.index-maps-k-in-loop-k.result c.index-maps-k.result
    c.relations.result.now (search rules) (omega arith) (omega arith) c.index-maps-k.is c.index-maps-k-in-loop-k.is
    c.relations.ensures.relations in
    complex_told c.args.c.now c.loop-k.k _ _ _ law c.loop-k.invariant _ (sym c.is_some.ensures ∙ c.if-is_some.true) c.in_ok-outside.ensures.meets

pub loop-k-preserved : goal.loop-k-preserved
loop-k-preserved g c =
    let law =
    law_of c.args.c.now c.loop-k.k c.as_slice-maps.result.now c.index-maps-k-in-loop-k.result c.index-maps-k.result
    c.relations.result.now (search rules) (omega arith) (omega arith) c.index-maps-k.is c.index-maps-k-in-loop-k.is
    c.relations.ensures.relations in
    complex_goes_on c.args.c.now c.loop-k.k _ _ _ law c.loop-k.invariant _ (sym c.is_some.ensures ∙ c.if-is_some.false) c.in_ok-outside.ensures.meets

pub returns-clause-meets : goal.returns-clause-meets
returns-clause-meets g c = all_hold c.args.c.now c.loop-k.k (omega (arith, ap length c.as_slice-maps.ensures.items)) c.loop-k.invariant
