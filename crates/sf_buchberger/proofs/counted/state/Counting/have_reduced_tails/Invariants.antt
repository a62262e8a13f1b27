use Rattle.sf_buchberger.specs.CountedRows.{HasReducedTailBy}
use Rattle.sf_buchberger.proofs.DegreeBases.Positions.{HoldsBetween}
use Rattle.sf_buchberger.proofs.counted.state.Counting.have_reduced_tails.Given as goal

abbrev pub invariant-loop-i : goal.invariant-loop-i
invariant-loop-i l = HoldsBetween (HasReducedTailBy l.self.rows.rows) l.self.rows.rows l.fn.from l.i
