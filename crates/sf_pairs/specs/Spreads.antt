-- A choice among pairs that is spread over them. (This project's own.)
use Rattle.std.specs.Prelude.{ℕ, ◌+◌, Bool, if◌then◌else◌, nat_lt}

-- a count, and whether the last reduction ended in zero
pub record Spread : Type 0 where
  pub number : ℕ
  pub zero : Bool

-- the count that comes next: it goes back to 0 where it would pass 1,000,000
abbrev pub next_number : Spread → ℕ
next_number s = let raised = s.number + (if s.zero then 3 else 1) in if nat_lt 1000000 raised then 0 else raised

-- the state after a choice
abbrev pub after_choice : Spread → Spread
after_choice s = record { number = next_number s; zero = s.zero }
