use Rattle.sf_hilbert.proofs.Exactness.Bound.{ends_after_variables, exact_modulo_variables, no_constants_from_second}
use Rattle.sf_hilbert.proofs.WithoutRows.{no_homology_without_rows}
use Rattle.sf_hilbert.proofs.bound.resolutions_end_after_the_variables.Goals as goal

pub returns : goal.returns
returns c = record {
  end = ends_after_variables;
  constants = no_constants_from_second;
  exact = exact_modulo_variables;
  homology = no_homology_without_rows;
}
