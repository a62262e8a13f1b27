use Rattle.sf_functor.proofs.TensorVectors.{has_tensor_relations, spans_tensor_relations}
use Rattle.sf_functor.proofs.laws.tensors_are_of_vectors.Goals as goal

pub returns : goal.returns
returns c = record { spans = spans_tensor_relations; products = has_tensor_relations }
