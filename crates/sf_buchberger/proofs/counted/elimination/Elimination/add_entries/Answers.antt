use Rattle.sf_buchberger.proofs.DegreeBases.Kept.{GoesOn-added}
use Rattle.sf_buchberger.proofs.counted.elimination.Elimination.add_entries.Goals as goal

pub returns : goal.returns
returns c =
    let facts = c.facts.ensures in record {
      goes_on = GoesOn-added c.args.m.now facts.field facts.matrix facts.weights c.args.self.now c.requires.elimination c.args.factor c.args.entries.now c.requires.entries c.add.result c.add.new.self c.add.ensures.added;
    }
