use Rattle.sf_bidual.proofs.Columns.Laws.{column-squares, resolves_boundaries, resolves_cycles, resolves_homology, resolves_terms}
use Rattle.sf_bidual.proofs.column.columns_are_resolutions.Goals as goal

pub returns : goal.returns
returns c = record {
  boundaries = resolves_boundaries;
  cycles = resolves_cycles;
  homology = resolves_homology;
  terms = resolves_terms;
  squares = column-squares;
}
