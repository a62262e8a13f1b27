use Rattle.sf_genmor.proofs.CoordinateAnswers.{coordinates_are}
use Rattle.sf_genmor.proofs.laws.coordinates_are_answered.Goals as goal

pub returns : goal.returns
returns c = λ limit generators base relations v looked found rings targets spans run.
    coordinates_are generators base relations rings targets spans v limit looked found run
