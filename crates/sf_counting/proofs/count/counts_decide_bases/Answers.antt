use Rattle.sf_counting.proofs.Counting.CountedBases.{counted_basis, needed_past_full}
use Rattle.sf_counting.proofs.Counting.FullDegrees.{IsFull-more}
use Rattle.sf_counting.proofs.Counting.GraphLeads.{complete_where_full, no_more_leads}
use Rattle.sf_counting.proofs.count.counts_decide_bases.Goals as goal

pub returns : goal.returns
returns c = record {
  bases = counted_basis;
  leads = λ n m prime matrix over. no_more_leads n m prime matrix;
  complete = λ n m prime matrix over rows g v full inside variables. complete_where_full n m prime matrix rows g v.degree full v.terms (inside, variables);
  needed = needed_past_full;
  more = IsFull-more;
}
