use Rattle.std.proofs.Common.{rules}
use Rattle.sf_algebra.proofs.Basics.Lists.{AllByRecursion-get}
use Rattle.sf_object.proofs.Outside.{inside_next, outside_here, row_stands}
use Rattle.sf_object.proofs.faults.first_outside.Goals as goal

pub reduced-requires-clause-vector : goal.reduced-requires-clause-vector
reduced-requires-clause-vector g c =
    row_stands c.args.m.now c.args.vectors.now c.requires.ring c.requires.target c.row.ensures.matrix c.loop-i.i _ c.row.ensures.row

pub reduced-requires-clause-room : goal.reduced-requires-clause-room
reduced-requires-clause-room g c = AllByRecursion-get _ _ _ _ c.requires.room c.row.ensures.row

pub returns-then-not-is_empty-clause-first : goal.returns-then-not-is_empty-clause-first
returns-then-not-is_empty-clause-first g c =
    let vector =
    row_stands c.args.m.now c.args.vectors.now c.requires.ring c.requires.target c.row.ensures.matrix c.loop-i.i _ c.row.ensures.row in
    outside_here c.args.m.now c.matrix_facts.ensures.field c.matrix_facts.ensures.matrix c.args.vectors.now.rows
    c.loop-i.i c.row.result.now c.row.ensures.row vector c.loop-i.invariant _ _ c.in_ok-rest.ensures.reduction (search rules)

pub loop-i-preserved : goal.loop-i-preserved
loop-i-preserved g c =
    let vector =
    row_stands c.args.m.now c.args.vectors.now c.requires.ring c.requires.target c.row.ensures.matrix c.loop-i.i _ c.row.ensures.row in
    inside_next c.args.m.now c.matrix_facts.ensures.field c.matrix_facts.ensures.matrix c.args.vectors.now.rows
    c.loop-i.i c.row.result.now c.row.ensures.row vector c.loop-i.invariant _ _ c.in_ok-rest.ensures.reduction (search rules)
