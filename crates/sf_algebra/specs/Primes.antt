-- Prime numbers. (Any textbook of algebra.)
use Rattle.std.specs.Prelude.{◌≢◌, ℕ, ◌<◌, ◌%◌}

-- a number above 1 that no number strictly between 1 and itself divides
pub record IsPrime (p : ℕ) : Type 0 where
  pub above_one : 1 < p
  pub undivided : (d : ℕ) → 1 < d → d < p → p % d ≢ 0
