use Rattle.sf_matrix.proofs.Plans.Rules.{meets_exit, meets_memory}
use Rattle.sf_genmor.proofs.BlockSteps.{blocks_cut, blocks_failed, blocks_found, blocks_ring, blocks_target}
use Rattle.sf_genmor.proofs.blocks.first_blocks_of.Goals as goal

pub returns-in_err-stack : goal.returns-in_err-stack
returns-in_err-stack g c = meets_exit c.from_residual.ensures.1 meets_memory

pub returns-in_err-syzygies : goal.returns-in_err-syzygies
returns-in_err-syzygies g c =
    meets_exit c.from_residual-in_err-syzygies.ensures.1
    (blocks_failed c.args.a.now c.args.b.now _ c.in_ok-stack.ensures.stacked c.in_err-syzygies.ensures)

pub first_blocks-requires-clause-ring : goal.first_blocks-requires-clause-ring
first_blocks-requires-clause-ring g c =
    blocks_ring c.args.a.now c.args.b.now _ c.in_ok-stack.ensures.stacked c.in_ok-syzygies.ensures

pub first_blocks-requires-clause-target : goal.first_blocks-requires-clause-target
first_blocks-requires-clause-target g c =
    blocks_target c.args.a.now c.args.b.now _ c.in_ok-stack.ensures.stacked c.in_ok-syzygies.ensures

pub returns-in_err-first_blocks : goal.returns-in_err-first_blocks
returns-in_err-first_blocks g c =
    meets_exit c.from_residual-in_err-first_blocks.ensures.1
    (blocks_cut c.args.a.now c.args.b.now _ c.in_ok-stack.ensures.stacked c.in_ok-syzygies.ensures)

pub returns : goal.returns
returns g c =
    blocks_found c.args.a.now c.args.b.now _ c.in_ok-stack.ensures.stacked c.in_ok-syzygies.ensures
    c.in_ok-first_blocks.ensures.blocks
