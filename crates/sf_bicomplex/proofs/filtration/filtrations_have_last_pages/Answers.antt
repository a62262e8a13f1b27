use Rattle.sf_bicomplex.proofs.Filtrations.HomologyParts.{leading_columns, parts_as_last_page, rising_parts}
use Rattle.sf_bicomplex.proofs.filtration.filtrations_have_last_pages.Goals as goal

pub returns : goal.returns
returns c = record {
  parts = λ b h prime n above below up down g relations homology k l rises c.
      rising_parts b h prime n above below up down g relations homology k l rises c;
  columns = leading_columns;
  last_page = parts_as_last_page;
}
