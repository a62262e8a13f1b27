use Rattle.std.proofs.Common.{ℕ, ◌<◌}
use Rattle.std.specs.Prelude.{Contains}
use Rattle.sf_groebner.specs.Criterion.{IsPair}
use Rattle.sf_counting.specs.CountLaws.{pair_degree}
use Rattle.sf_buchberger.proofs.counted.state.Counting.covers_pairs_with.Given as goal

abbrev pub invariant-loop-i : goal.invariant-loop-i
invariant-loop-i l =
    (i : ℕ) → i < l.i → IsPair l.self.rows.rows i l.j → Contains l.self.full (pair_degree l.m l.self.rows.rows i l.j)
