use Rattle.sf_script.proofs.Tables.{written-some}
use Rattle.sf_script.proofs.laws.commands_are_of_forms.Goals as goal

pub returns : goal.returns
returns c = written-some
