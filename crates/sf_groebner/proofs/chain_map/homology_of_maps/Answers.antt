use Rattle.sf_groebner.specs.Spans.{InSpan}
use Rattle.sf_groebner.proofs.MapsOnHomology.ChainMaps.{homology_acts, kernel_acts, image_acts, cokernel_acts}
use Rattle.sf_groebner.proofs.MapsOnHomology.EqualModulo.{combined-AreEqualModulo}
use Rattle.sf_groebner.proofs.MapsOnHomology.IdentitySquares.{chain_maps-identity}
use Rattle.sf_groebner.proofs.chain_map.homology_of_maps.Goals as goal

pub returns : goal.returns
returns c = record {
  identities = λ ring positive above. chain_maps-identity ring positive above;
  homology = homology_acts;
  kernels = kernel_acts;
  images = image_acts;
  cokernels = cokernel_acts;
  classes = λ map zeros others positive. combined-AreEqualModulo map positive (InSpan zeros) (InSpan others);
}
