use Rattle.sf_reduce.proofs.LeadIndexes.{HasOneMore-slice_set}
use Rattle.sf_reduce.proofs.leads.enter_lead.Goals as goal

pub returns : goal.returns
returns c = record {
  ok =
      HasOneMore-slice_set c.args.index.now.items c.reach.new.index.items c.args.position c.index_mut.result.now
      c.push.new.self c.args.lead c.in_ok-reach.ensures.same c.in_ok-reach.ensures.reached
      c.index_mut.ensures.value c.in_ok-push.ensures.ok;
  err = tt;
}
