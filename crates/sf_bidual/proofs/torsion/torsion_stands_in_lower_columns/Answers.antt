use Rattle.sf_bidual.proofs.HighestColumns.HighestColumn.{no_highest_part, torsion_in_lower_columns}
use Rattle.sf_bidual.proofs.torsion.torsion_stands_in_lower_columns.Goals as goal

pub returns : goal.returns
returns c = record { lower = torsion_in_lower_columns; part = no_highest_part }
