use Rattle.std.proofs.Common.{ℕ, ◌<◌}
use Rattle.std.specs.Prelude.{Contains}
use Rattle.sf_groebner.specs.Criterion.{IsPair}
use Rattle.sf_counting.specs.CountLaws.{pair_degree}
use Rattle.sf_buchberger.proofs.counted.state.Counting.covers_pairs.Given as goal

abbrev pub invariant-loop-j : goal.invariant-loop-j
invariant-loop-j l =
    (i j : ℕ) → j < l.j → IsPair l.self.rows.rows i j → Contains l.self.full (pair_degree l.m l.self.rows.rows i j)
