use Rattle.sf_bicomplex.proofs.Spans.PageExistence.{one_differential, one_page}
use Rattle.sf_bicomplex.proofs.Spans.PartExistence.{inverse_part_maps, one_part, one_total_homology}
use Rattle.sf_bicomplex.proofs.existence.pages_have_matrices.Goals as goal

pub returns : goal.returns
returns c = record {
  pages = one_page;
  differentials = one_differential;
  homology = one_total_homology;
  parts = one_part;
  inverse = inverse_part_maps;
}
