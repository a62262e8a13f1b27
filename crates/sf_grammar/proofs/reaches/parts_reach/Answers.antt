use Rattle.sf_grammar.proofs.Parts.{parts_reached}
use Rattle.sf_grammar.proofs.reaches.parts_reach.Goals as goal

pub returns : goal.returns
returns g c apart separates machine stands reach right = parts_reached apart separates machine stands reach right
