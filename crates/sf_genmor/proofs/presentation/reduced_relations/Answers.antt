use Rattle.std.proofs.Common.{rules}
use Rattle.sf_genmor.proofs.PresentationSteps.{relations_none, relations_some}
use Rattle.sf_genmor.proofs.presentation.reduced_relations.Goals as goal

pub returns-then-rows-eq0 : goal.returns-then-rows-eq0
returns-then-rows-eq0 g c = relations_none c.args.generators.now c.args.base.now (search rules) (search rules)

pub returns : goal.returns
returns g c = relations_some c.args.generators.now c.args.base.now (search rules) c.first_blocks_of.ensures
