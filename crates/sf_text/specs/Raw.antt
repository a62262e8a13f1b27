-- A term as a script writes it.
use Rattle.std.specs.Prelude.{ℕ, ◌≤◌, Bool, List, length}
use Rattle.std.specs.List.{AllByRecursion}

-- its sign, its coefficient, and its variables with their exponents in the order of the text; what isn't written is 1
pub record RawTerm : Type 0 where
  pub minus : Bool
  pub coefficient : ℕ
  pub factors : List (List ℕ × ℕ)

-- at most six factors, with exponents of at most three digits
pub record IsSmallTerm (t : RawTerm) : Type 0 where
  pub few : length t.factors ≤ 6
  pub small : AllByRecursion (λ (f : List ℕ × ℕ). f.1 ≤ 999) t.factors
