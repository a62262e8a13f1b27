use Rattle.std.proofs.Common.{◌≡◌, false, take}
use Rattle.std.specs.List.{list_any}
use Rattle.sf_reduce.specs.LeadIndex.{has_divisor}
use Rattle.sf_reduce.proofs.leads.divisor_among.Given as goal

abbrev pub invariant-loop-lead : goal.invariant-loop-lead
invariant-loop-lead l = list_any (has_divisor l.monomial) (take l.lead-index l.leads) ≡ false
