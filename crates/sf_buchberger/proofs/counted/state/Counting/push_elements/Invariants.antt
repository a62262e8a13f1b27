use Rattle.sf_buchberger.specs.CountedRows.{HasNewRows}
use Rattle.sf_buchberger.proofs.counted.state.Counting.push_elements.Given as goal

abbrev pub invariant-loop-element : goal.invariant-loop-element
invariant-loop-element l = HasNewRows l.limit l.m l.fn.self l.elimination.degree l.self
