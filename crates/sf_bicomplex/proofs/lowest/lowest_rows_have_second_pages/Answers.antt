use Rattle.sf_bicomplex.proofs.Pages.LowestRows.{lowest_cycles, lowest_differentials, second_boundaries, second_cycles}
use Rattle.sf_bicomplex.proofs.lowest.lowest_rows_have_second_pages.Goals as goal

pub returns : goal.returns
returns c = record {
  cycles = lowest_cycles;
  differentials = lowest_differentials;
  second_cycles = second_cycles;
  second_boundaries = second_boundaries;
}
