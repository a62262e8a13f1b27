use Rattle.sf_genmor.proofs.PresentationDegrees.{presentation_degrees}
use Rattle.sf_genmor.proofs.laws.presentations_have_small_degrees.Goals as goal

pub returns : goal.returns
returns c = presentation_degrees
