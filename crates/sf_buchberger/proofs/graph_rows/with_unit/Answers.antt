use Rattle.sf_algebra.specs.Rings.{ones}
use Rattle.sf_buchberger.proofs.GraphUnits.{last_place}
use Rattle.sf_buchberger.proofs.graph_rows.with_unit.Goals as goal

pub push-requires-clause-last : goal.push-requires-clause-last
push-requires-clause-last c =
    rw c.in_ok-row.ensures.equal (last_place ones c.args.position c.one.result c.args.v.now.terms c.requires.behind)
