use Rattle.std.proofs.Common.{rules, ◌≤◌}
use Rattle.sf_store.proofs.Limits.{within_more}
use Rattle.sf_store.proofs.looks.Looks.minimal.Goals as goal

pub minimal_of-requires-clause-low : goal.minimal_of-requires-clause-low
minimal_of-requires-clause-low c =
    let le : c.args.self.now.limit ≤ 60 = search rules in
    within_more c.args.cands.now.ring.weights c.args.self.now.limit 60 c.args.cands.now.rows le c.requires.small.within
