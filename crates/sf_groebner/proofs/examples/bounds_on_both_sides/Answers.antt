use Rattle.sf_groebner.proofs.WorkedExamples.SizesAtBounds.{zeros-at_bounds, refuses_one_more_row, refuses_one_more_column, refuses_greater_degree, refuses_lesser_degree}
use Rattle.sf_groebner.proofs.examples.bounds_on_both_sides.Goals as goal

pub returns : goal.returns
returns c = record {
  at_bounds = zeros-at_bounds;
  one_more_row = refuses_one_more_row;
  one_more_column = refuses_one_more_column;
  greater_degree = refuses_greater_degree;
  lesser_degree = refuses_lesser_degree;
}
