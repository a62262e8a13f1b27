use Rattle.std.proofs.Common.{refl}
use Rattle.sf_algebra.specs.Vectors.{IsVector}
use Rattle.sf_algebra.proofs.Basics.Lists.{AllByRecursion-get}
use Rattle.sf_genmor.proofs.FirstBlocks.{first_blocks-next, first_blocks-vector}
use Rattle.sf_genmor.proofs.blocks.first_blocks.Goals as goal

pub push_nonzero-requires : goal.push_nonzero-requires
push_nonzero-requires c =
    let syzygies = c.args.syzygies.now in
    let vector =
    AllByRecursion-get (IsVector syzygies.ring syzygies.target) syzygies.rows c.loop-i.i c.row.result.now
    c.row.ensures.matrix c.row.ensures.row in
    rw (c.in_ok-block.ensures.part, c.rows-end.ensures.len)
    (first_blocks-vector c.args.a.now syzygies c.loop-i.i c.loop-i.blocks c.row.result.now c.row.ensures.row
    c.loop-i.invariant c.requires.ring c.requires.target vector)

pub loop-i-preserved : goal.loop-i-preserved
loop-i-preserved c =
    first_blocks-next c.args.a.now c.args.syzygies.now c.loop-i.i c.loop-i.blocks c.row.result.now c.row.ensures.row
    c.loop-i.invariant c.push_nonzero.new.rows
    (rw (c.in_ok-push_nonzero.ensures.ok, c.in_ok-block.ensures.part, c.rows-end.ensures.len) refl)
