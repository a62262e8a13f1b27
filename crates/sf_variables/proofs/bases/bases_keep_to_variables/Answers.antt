use Rattle.sf_groebner.specs.Presentations.{IsZero, IsRelation}
use Rattle.sf_groebner.specs.Spans.{InSpan, IsSyzygy}
use Rattle.sf_variables.proofs.Presenting.MatrixBases.{first_blocks_in_variables, graph_in_variables, minimal_in_variables, relations_in_variables, span_in_variables, span_parts_of, syzygies_in_variables}
use Rattle.sf_variables.proofs.bases.bases_keep_to_variables.Goals as goal

pub returns : goal.returns
returns c = record {
  graph = graph_in_variables;
  span = span_in_variables;
  syzygies = syzygies_in_variables;
  relations = λ n m base positive same h k. relations_in_variables n m positive h (InSpan base)
      (span_parts_of n m.ring positive base same k);
  first_blocks = first_blocks_in_variables;
  minimal_span = λ n m base positive h. minimal_in_variables m.ring n (InSpan m) (InSpan base)
      (span_in_variables n m positive h);
  minimal_syzygies = λ n m positive h. minimal_in_variables m.ring n (IsSyzygy m) IsZero
      (syzygies_in_variables n m positive h);
  minimal_relations = λ n m base positive same h k. minimal_in_variables m.ring n (IsRelation m (InSpan base)) IsZero
      (relations_in_variables n m positive h (InSpan base) (span_parts_of n m.ring positive base same k));
}
