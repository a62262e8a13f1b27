use Rattle.sf_bidual.proofs.Columns.Laws.{column_degrees-steps}
use Rattle.sf_bidual.proofs.HorizontalMaps.Squares.{IsMatrix-horizontal, commute_augmentations, commute_differentials, horizontal_squares, row_degrees-horizontal}
use Rattle.sf_bidual.proofs.horizontal.horizontal_maps_commute.Goals as goal

pub returns : goal.returns
returns c = record {
  matrices = λ ring maps x prime complex h i j. (
    IsMatrix-horizontal ring maps x prime complex h i j,
    column_degrees-steps ring maps x prime complex h i j,
    row_degrees-horizontal ring maps x prime complex h i j,
  );
  differentials = commute_differentials;
  augmentations = commute_augmentations;
  squares = horizontal_squares;
}
