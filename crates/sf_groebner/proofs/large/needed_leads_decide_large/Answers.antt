use Rattle.sf_groebner.specs.Spans.{IsGraphVector, graph_degrees}
use Rattle.sf_groebner.proofs.Constructions.LargeMatrices.{large_above, large_beyond, large_reason, needed_no_more}
use Rattle.sf_groebner.proofs.PairLoops.NeededLeads.{lead_needed}
use Rattle.sf_groebner.proofs.Spanning.Spans.{graph_module}
use Rattle.sf_groebner.proofs.large.needed_leads_decide_large.Goals as goal

pub returns : goal.returns
returns c = record {
  needed = λ m positive rows d complete.
      lead_needed m.ring positive (graph_degrees m) (IsGraphVector m) (graph_module m positive) rows d complete;
  count = λ m. needed_no_more m.ring.weights (IsGraphVector m);
  above = large_above;
  beyond = large_beyond;
  reason = large_reason;
}
