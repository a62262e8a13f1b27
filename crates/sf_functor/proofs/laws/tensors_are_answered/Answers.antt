use Rattle.sf_functor.proofs.TensorAnswers.{answers_cokernel, answers_sound_tensor, answers_tensor}
use Rattle.sf_functor.proofs.laws.tensors_are_answered.Goals as goal

pub returns : goal.returns
returns c = record { tensor = answers_tensor; sound = answers_sound_tensor; cokernel = answers_cokernel }
