use Rattle.sf_groebner.proofs.Constructions.MatrixBases.{graph_basis, span_basis, syzygy_basis}
use Rattle.sf_groebner.proofs.existence.reduced_bases_exist.Goals as goal

pub returns : goal.returns
returns c = record { graph = graph_basis; span = span_basis; syzygies = syzygy_basis }
