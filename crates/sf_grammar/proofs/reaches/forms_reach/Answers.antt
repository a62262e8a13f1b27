use Rattle.sf_grammar.proofs.Forms.{lines_reached}
use Rattle.sf_grammar.proofs.reaches.forms_reach.Goals as goal

pub returns : goal.returns
returns g c kinds right form forms are_forms text = lines_reached kinds right form forms are_forms text
