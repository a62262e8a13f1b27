use Rattle.sf_bicomplex.proofs.Spans.PartExistence.{inverse_given_maps, one_given_part, rising_given_parts}
use Rattle.sf_bicomplex.proofs.Staircases.SetHomology.{gives_cokernel, gives_exact_places}
use Rattle.sf_bicomplex.proofs.given.modules_have_filtrations.Goals as goal

pub returns : goal.returns
returns c = record {
  rising = rising_given_parts;
  parts = one_given_part;
  inverse = inverse_given_maps;
  cokernel = gives_cokernel;
  exact = gives_exact_places;
}
