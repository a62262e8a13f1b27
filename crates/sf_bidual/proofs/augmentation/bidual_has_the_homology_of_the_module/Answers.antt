use Rattle.sf_bidual.proofs.BidualSpots.Homology.{all_cycles, boundaries_of_relations, cycles_of_vectors, no_other_homology}
use Rattle.sf_bidual.proofs.augmentation.bidual_has_the_homology_of_the_module.Goals as goal

pub returns : goal.returns
returns c = record {
  cycles = cycles_of_vectors;
  boundaries = boundaries_of_relations;
  all = all_cycles;
  others = no_other_homology;
}
