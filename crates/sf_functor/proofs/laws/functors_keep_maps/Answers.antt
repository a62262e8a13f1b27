use Rattle.sf_functor.proofs.FunctorMaps.{homs_identities, homs_maps, homs_products, tensors_identities, tensors_maps, tensors_products}
use Rattle.sf_functor.proofs.laws.functors_keep_maps.Goals as goal

pub returns : goal.returns
returns c = record { tensor_maps = tensors_maps; hom_maps = homs_maps; tensor_identities = tensors_identities; hom_identities = homs_identities; tensor_products = tensors_products; hom_products = homs_products }
