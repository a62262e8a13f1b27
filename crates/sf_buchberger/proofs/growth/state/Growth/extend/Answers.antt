use Rattle.sf_buchberger.proofs.MonicMultiples.{PairsFit-low, within_limit}
use Rattle.sf_buchberger.proofs.growth.state.Growth.extend.Goals as goal

pub push-requires-clause-room : goal.push-requires-clause-room
push-requires-clause-room c =
    PairsFit-low c.args.limit c.args.self.now.rows.rows c.args.lead.now.at c.requires.limit
    (within_limit c.args.limit c.args.self.now.rows.rows c.args.lead.now.at c.is_past_bounds.result c.is_past_bounds.ensures c.if-is_past_bounds.false)
    c.requires.low
