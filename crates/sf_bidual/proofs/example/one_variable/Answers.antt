use Rattle.sf_bidual.proofs.Examples.OneVariable.{no-variable_maps, refuses-variable_as_free, variable-bidual, variable-parts}
use Rattle.sf_bidual.proofs.example.one_variable.Goals as goal

pub returns : goal.returns
returns c = record { bidual = variable-bidual; maps = no-variable_maps; parts = variable-parts; free = refuses-variable_as_free }
