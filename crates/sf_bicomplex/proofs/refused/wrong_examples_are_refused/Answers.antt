use Rattle.sf_bicomplex.proofs.Examples.RefusedLists.{refuses-commuting_squares, refuses-doubled_homotopy, refuses-exchanged_generators, refuses-part_of_other_column, refuses-unpaired_cycles, refuses-unsigned_complex}
use Rattle.sf_bicomplex.proofs.refused.wrong_examples_are_refused.Goals as goal

pub returns : goal.returns
returns c = record {
  complex = refuses-unsigned_complex;
  bicomplex = refuses-commuting_squares;
  cycles = refuses-unpaired_cycles;
  generators = refuses-exchanged_generators;
  column = refuses-part_of_other_column;
  homotopy = refuses-doubled_homotopy;
}
