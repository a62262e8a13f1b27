use Rattle.sf_groebner.proofs.Constructions.MatrixBases.{answer_exists, answer_unique}
use Rattle.sf_groebner.proofs.existence.each_matrix_has_one_answer.Goals as goal

pub returns : goal.returns
returns c = record { exists = λ limit m prime matrix. answer_exists m prime matrix limit; unique = answer_unique }
