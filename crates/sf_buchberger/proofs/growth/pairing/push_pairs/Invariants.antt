use Rattle.std.proofs.Common.{◌≡◌, ◌++◌, length}
use Rattle.sf_algebra.specs.Rings.{ones}
use Rattle.sf_buchberger.specs.QueuedPairs.{pairs_with}
use Rattle.sf_buchberger.proofs.growth.pairing.push_pairs.Given as goal

abbrev pub invariant-loop-i : goal.invariant-loop-i
invariant-loop-i l =
    l.pairs ≡ l.fn.pairs ++ pairs_with ones l.rows.target l.rows.rows l.lead.at (length l.rows.rows) l.i
