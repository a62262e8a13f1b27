use Rattle.sf_buchberger.proofs.DegreeBases.Kept.{GoesOn-zero}
use Rattle.sf_buchberger.proofs.counted.elimination.Elimination.clear.Goals as goal

pub returns : goal.returns
returns c =
    let facts = c.facts.ensures in record {
      goes_on = GoesOn-zero c.args.m.now facts.field facts.matrix facts.weights c.args.self.now c.requires.elimination c.clear.new.self c.clear.ensures.zero;
    }
