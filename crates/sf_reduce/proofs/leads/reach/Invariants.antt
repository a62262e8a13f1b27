use Rattle.std.proofs.Common.{◌-◌, ◌+◌, length}
use Rattle.sf_reduce.specs.LeadIndex.{HaveSameLeads}
use Rattle.sf_reduce.proofs.leads.reach.Given as goal

abbrev pub invariant-loop-alloc : goal.invariant-loop-alloc
invariant-loop-alloc l = HaveSameLeads l.fn.index.items l.index.items

abbrev pub decreases-loop-alloc : goal.decreases-loop-alloc
decreases-loop-alloc l = l.position + 1 - length l.index.items
