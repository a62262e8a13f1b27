use Rattle.sf_bicomplex.proofs.Tensors.Factors.{tensors_of_complexes, tensors_with_modules}
use Rattle.sf_bicomplex.proofs.Tensors.Lists.{complexes_of_lists, complexes_of_resolutions}
use Rattle.sf_bicomplex.proofs.Tensors.TensorLaws.{tensor_bicomplexes}
use Rattle.sf_bicomplex.proofs.tensor.tensors_are_bicomplexes.Goals as goal

pub returns : goal.returns
returns c = record {
  modules = tensor_bicomplexes;
  complexes = tensors_of_complexes;
  module_alone = tensors_with_modules;
  lists = complexes_of_lists;
  resolutions = complexes_of_resolutions;
}
