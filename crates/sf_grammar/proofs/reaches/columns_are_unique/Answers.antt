use Rattle.sf_grammar.proofs.Columns.{column_one}
use Rattle.sf_grammar.proofs.reaches.columns_are_unique.Goals as goal

pub returns : goal.returns
returns c = column_one
