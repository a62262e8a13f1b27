use Rattle.std.proofs.Common.{◌≡◌, take}
use Rattle.sf_genmor.specs.LookPlans.{first_blocks}
use Rattle.sf_genmor.proofs.blocks.first_blocks.Given as goal

abbrev pub invariant-loop-i : goal.invariant-loop-i
invariant-loop-i l = l.blocks ≡ first_blocks l.a (take l.i l.syzygies.rows)
