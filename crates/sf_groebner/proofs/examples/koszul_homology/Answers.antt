use Rattle.sf_groebner.proofs.WorkedExamples.KoszulCokernel.{koszul-cokernel, refuses_no_cokernel}
use Rattle.sf_groebner.proofs.WorkedExamples.KoszulHomology.{koszul-homology, koszul-kernel}
use Rattle.sf_groebner.proofs.examples.koszul_homology.Goals as goal

pub returns : goal.returns
returns c = record {
  middle = koszul-homology;
  kernel = koszul-kernel;
  cokernel = koszul-cokernel;
  not_zero = refuses_no_cokernel;
}
