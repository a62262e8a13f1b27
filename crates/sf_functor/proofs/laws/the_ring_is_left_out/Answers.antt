use Rattle.sf_functor.proofs.FunctorMaps.{homs_ring, tensors_ring}
use Rattle.sf_functor.proofs.TensorAnswers.{answers_tensor_of_ring}
use Rattle.sf_functor.proofs.laws.the_ring_is_left_out.Goals as goal

pub returns : goal.returns
returns c = record { tensor = tensors_ring; hom = homs_ring; plan = answers_tensor_of_ring }
