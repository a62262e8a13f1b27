use Rattle.sf_functor.proofs.FunctorComplexes.{homs_complexes, tensors_complexes}
use Rattle.sf_functor.proofs.laws.functors_keep_complexes.Goals as goal

pub returns : goal.returns
returns c = record { tensor = tensors_complexes; hom = homs_complexes }
