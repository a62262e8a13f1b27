use Rattle.sf_derived.proofs.DerivedAnswers.{answers_sound_ext, answers_sound_tor}
use Rattle.sf_derived.proofs.laws.answers_are_sound.Goals as goal

pub returns : goal.returns
returns c = record { ext = answers_sound_ext; tor = answers_sound_tor }
