use Rattle.std.proofs.Common.{refl, rules}
use Rattle.sf_genmor.proofs.PickedRows.{picked-next, picked-vector}
use Rattle.sf_genmor.proofs.generators.picked.Goals as goal

pub push_row-requires : goal.push_row-requires
push_row-requires c =
    rw (c.in_ok-copy-2.ensures.equal)
    (picked-vector c.args.m.now c.args.numbers.now c.loop-number.number-index c.loop-number.rows c.row.result.now
    c.loop-number.invariant c.row.ensures.row c.row.ensures.matrix)

pub loop-number-preserved : goal.loop-number-preserved
loop-number-preserved c =
    picked-next c.args.m.now c.args.numbers.now c.loop-number.number-index c.loop-number.rows c.row.result.now
    c.loop-number.invariant c.row.ensures.row c.push_row.new.self (search rules)
    (rw (c.in_ok-push_row.ensures.ok, c.in_ok-copy-2.ensures.equal) refl)
