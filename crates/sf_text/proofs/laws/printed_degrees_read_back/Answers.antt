use Rattle.sf_text.proofs.ReadingBack.Degrees.{degrees_read_back}
use Rattle.sf_text.proofs.laws.printed_degrees_read_back.Goals as goal

pub returns : goal.returns
returns c = degrees_read_back
