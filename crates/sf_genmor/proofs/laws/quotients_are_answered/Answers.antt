use Rattle.sf_genmor.proofs.QuotientAnswers.{quotient_answered, quotient_sound}
use Rattle.sf_genmor.proofs.laws.quotients_are_answered.Goals as goal

pub returns : goal.returns
returns c = record { quotient = quotient_answered; sound = quotient_sound }
