use Rattle.std.proofs.Common.{refl}
use Rattle.sf_script.proofs.Lines.{columns_hold}
use Rattle.sf_script.specs.GrammarLaws.{malformed_lines}
use Rattle.sf_script.proofs.laws.columns_of_lines.Goals as goal

pub returns : goal.returns
returns c = columns_hold malformed_lines refl
