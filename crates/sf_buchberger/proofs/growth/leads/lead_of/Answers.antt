use Rattle.sf_buchberger.proofs.LeadRows.{lead_at-read}
use Rattle.sf_buchberger.proofs.growth.leads.lead_of.Goals as goal

pub returns : goal.returns
returns c = record {
  lead = lead_at-read c.args.rows.now.rows c.args.i c.row.result.now c.row.ensures.row c.requires.monic c.terms.result.now c.index-terms-0.result c.terms.ensures.terms c.index-terms-0.is;
}
