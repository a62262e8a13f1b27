use Rattle.sf_text.proofs.ReadingBack.Matrices.{reads_back, reads_back_without_degrees, reads_back_without_rows, has_read_degree}
use Rattle.sf_text.proofs.laws.printed_matrices_read_back.Goals as goal

pub returns : goal.returns
returns c = record {
  nonzero = reads_back;
  columns = reads_back_without_degrees;
  no_column = reads_back_without_rows;
  degree = has_read_degree;
}
