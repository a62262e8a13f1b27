use Rattle.sf_presented.proofs.Composites.{IsModuleMap-matrix_product, IsSquare-matrix_product, AreChainMaps-matrix_product}
use Rattle.sf_presented.proofs.map.maps_compose.Goals as goal

pub returns : goal.returns
returns c = record {
  modules = IsModuleMap-matrix_product;
  squares = IsSquare-matrix_product;
  complexes = AreChainMaps-matrix_product;
}
