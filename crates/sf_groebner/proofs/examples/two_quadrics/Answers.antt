use Rattle.sf_groebner.proofs.WorkedExamples.QuadricsGraph.{quadrics-matrix, quadrics-reduced_graph}
use Rattle.sf_groebner.proofs.WorkedExamples.QuadricsParts.{quadrics-span, quadrics-syzygies, third_row-lift, quadrics-small, quadrics-large, refuses_other_coefficients, refuses_unit_as_syzygy}
use Rattle.sf_groebner.proofs.examples.two_quadrics.Goals as goal

pub returns : goal.returns
returns c = record {
  matrix = quadrics-matrix;
  graph = quadrics-reduced_graph;
  span = quadrics-span;
  syzygies = quadrics-syzygies;
  not_syzygy = refuses_unit_as_syzygy;
  lift = third_row-lift;
  not_lift = refuses_other_coefficients;
  small = quadrics-small;
  large = quadrics-large;
}
