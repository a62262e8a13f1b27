-- How a count of faults or of bytes rises. A count of 64 bits stays at its last value.
use Rattle.std.specs.Prelude.{◌≡◌, ℕ, ◌+◌, ◌-◌, ◌^◌, ◌<◌, ◌≤◌}

-- the count rose, or it stands at its last value
abbrev pub Rose : ℕ → ℕ → Type 0
Rose old new = new < 2 ^ 64 - 1 → old < new

-- the count rose by more than n, or it stands at its last value
abbrev pub RoseMore : ℕ → ℕ → ℕ → Type 0
RoseMore n old new = new < 2 ^ 64 - 1 → old + n < new

-- the count rose by n, or by less where that took it to its last value
pub record RoseBy (n old new : ℕ) : Type 0 where
  pub least : old ≤ new
  pub most : new ≤ old + n
  pub exact : new < 2 ^ 64 - 1 → new ≡ old + n
