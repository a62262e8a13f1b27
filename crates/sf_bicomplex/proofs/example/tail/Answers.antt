use Rattle.sf_bicomplex.proofs.Examples.TailLaws.{tail-bicomplex}
use Rattle.sf_bicomplex.proofs.Examples.TailPages.{refuses_no_tail, tail-boundary, tail-cycle, tail-differential}
use Rattle.sf_bicomplex.proofs.example.tail.Goals as goal

pub returns : goal.returns
returns c = record {
  bicomplex = tail-bicomplex;
  differential = tail-differential;
  no_tail = refuses_no_tail;
  cycle = tail-cycle;
  boundary = tail-boundary;
}
