use Rattle.std.proofs.Common.{ℕ, ◌<◌}
use Rattle.sf_buchberger.specs.DonePairs.{IsLink}
use Rattle.sf_buchberger.proofs.growth.chains.is_chained.Given as goal

abbrev pub invariant-loop-k : goal.invariant-loop-k
invariant-loop-k l = (n : ℕ) → n < l.k → IsLink l.rows.rows l.done l.i l.j n → ⊥
