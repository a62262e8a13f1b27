use Rattle.sf_bicomplex.proofs.Spans.NextExistence.{inverse_next_maps, next_page_at_borders, one_page_homology}
use Rattle.sf_bicomplex.proofs.Spans.PageExistence.{next_page_by_matrix}
use Rattle.sf_bicomplex.proofs.next.next_pages_have_inverse_matrices.Goals as goal

pub returns : goal.returns
returns c = record {
  matrices = λ b h prime n m lower r p inside g relations other more d first second.
      next_page_by_matrix b h prime n m lower r p inside g relations other more first second d;
  borders = next_page_at_borders;
  homology = one_page_homology;
  inverse = λ b h prime r n p inside g relations other others next more page.
      inverse_next_maps b h prime r n p inside g relations page other others next more;
}
