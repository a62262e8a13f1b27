use Rattle.sf_derived.proofs.DerivedAnswers.{answers_ext}
use Rattle.sf_derived.proofs.laws.exts_are_answered.Goals as goal

pub returns : goal.returns
returns c = answers_ext
