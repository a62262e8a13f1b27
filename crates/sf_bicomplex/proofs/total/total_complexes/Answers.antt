use Rattle.sf_bicomplex.proofs.TotalComplexes.Squares.{zero_squares}
use Rattle.sf_bicomplex.proofs.TotalComplexes.TotalLaws.{columns_in_places, columns_of_images, highest_columns, keeps_columns, total_maps}
use Rattle.sf_bicomplex.proofs.total.total_complexes.Goals as goal

pub returns : goal.returns
returns c = record {
  maps = total_maps;
  squares = zero_squares;
  keeps = keeps_columns;
  columns = columns_in_places;
  images = columns_of_images;
  highest = highest_columns;
}
