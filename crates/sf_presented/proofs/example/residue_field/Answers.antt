use Rattle.sf_presented.proofs.ResidueCoordinates.{x-coordinates, refuses_x_as_coordinates}
use Rattle.sf_presented.proofs.ResidueFieldMaps.{onto-residue_field, refuses_map_into_ring, ideal-kernel, refuses_free_kernel, refuses_kernel_in_ring, residue_field-image, no-cokernel, residue-relations}
use Rattle.sf_presented.proofs.example.residue_field.Goals as goal

pub returns : goal.returns
returns c = record {
  map = onto-residue_field;
  not_map = refuses_map_into_ring;
  kernel = ideal-kernel;
  not_free = refuses_free_kernel;
  not_kernel = refuses_kernel_in_ring;
  image = residue_field-image;
  cokernel = no-cokernel;
  relations = residue-relations;
  coordinates = x-coordinates;
  not_coordinates = refuses_x_as_coordinates;
}
