use Rattle.sf_bicomplex.proofs.Pages.FirstPages.{first_boundaries, first_cycles}
use Rattle.sf_bicomplex.proofs.Pages.PageLaws.{boundaries_among_cycles, differentials_of_classes, differentials_of_cycles, kernel_as_next_cycles, last_pages, nested_pages, values_as_next_boundaries}
use Rattle.sf_bicomplex.proofs.page.pages_are_homology.Goals as goal

pub returns : goal.returns
returns c = record {
  nested = nested_pages;
  boundaries = boundaries_among_cycles;
  differentials = differentials_of_cycles;
  classes = differentials_of_classes;
  kernel = kernel_as_next_cycles;
  values = values_as_next_boundaries;
  last = last_pages;
  first_cycles = first_cycles;
  first_boundaries = first_boundaries;
}
