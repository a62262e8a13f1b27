use Rattle.sf_bicomplex.proofs.Staircases.ResolvedLaws.{boundaries_that_are_set, cycles_that_are_set, sets_complex}
use Rattle.sf_bicomplex.proofs.Staircases.SetHomology.{inverse_set_maps, one_set_homology}
use Rattle.sf_bicomplex.proofs.resolved.resolved_rows_give_homology.Goals as goal

pub returns : goal.returns
returns c = record {
  sets = sets_complex;
  boundaries = boundaries_that_are_set;
  cycles = cycles_that_are_set;
  homology = one_set_homology;
  maps = inverse_set_maps;
}
