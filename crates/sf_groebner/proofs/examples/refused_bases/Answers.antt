use Rattle.sf_groebner.proofs.WorkedExamples.RefusedLists.{refuses_later_lead_in_tail, refuses_earlier_lead_in_tail, refuses_outside_rows, refuses_doubled_row, refuses_zero, refuses_without_third_row, refuses_smaller_lead_first, refuses_greater_degree_first}
use Rattle.sf_groebner.proofs.examples.refused_bases.Goals as goal

pub returns : goal.returns
returns c = record {
  later_lead_in_tail = refuses_later_lead_in_tail;
  earlier_lead_in_tail = refuses_earlier_lead_in_tail;
  outside_rows = refuses_outside_rows;
  doubled_row = refuses_doubled_row;
  zero = refuses_zero;
  without_third_row = refuses_without_third_row;
  smaller_lead_first = refuses_smaller_lead_first;
  greater_degree_first = refuses_greater_degree_first;
}
