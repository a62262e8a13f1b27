use Rattle.sf_bidual.proofs.LowerColumns.Factored.{factored_part}
use Rattle.sf_bidual.proofs.factor.factors_stand_below_two_columns.Goals as goal

pub returns : goal.returns
returns c = record { part = factored_part }
