use Rattle.sf_algebra.specs.Matrices.{row_degrees}
use Rattle.sf_groebner.specs.Spans.{InSpan, IsSyzygy, graph_degrees, IsGraphVector}
use Rattle.sf_groebner.proofs.Spanning.Spans.{span_module, syzygy_module, graph_module}
use Rattle.sf_groebner.proofs.Uniqueness.UniqueBases.{unique_reduced}
use Rattle.sf_groebner.proofs.bases.reduced_bases_are_unique.Goals as goal

pub returns : goal.returns
returns c = record {
  span = λ m positive matrix. unique_reduced m.ring positive m.target (InSpan m) (span_module m positive matrix);
  syzygies = λ m positive. unique_reduced m.ring positive (row_degrees m) (IsSyzygy m) (syzygy_module m positive);
  graph = λ m positive. unique_reduced m.ring positive (graph_degrees m) (IsGraphVector m) (graph_module m positive);
}
