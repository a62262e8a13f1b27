-- The variables of a written matrix that aren't among the ring's.
use Rattle.std.specs.Prelude.{ℕ, Bool, not, Option, Some, option_and_then, List, find}
use Rattle.std.specs.List.{list_all, list_any}
use Rattle.std.specs.Str.{bytes_eq}
use Rattle.sf_text.specs.Raw.{RawTerm}

infixl 10 ◌>>=◌
abbrev pub ◌>>=◌ : {A B : Type 0} → Option A → (A → Option B) → Option B
o >>= f = option_and_then f o

-- a name is among these
abbrev pub is_among : List (List ℕ) → List ℕ → Bool
is_among names name = list_any (λ other. bytes_eq other name) names

-- the variables of a term, of an entry, of a row are the ring's
abbrev pub knows_factor : List (List ℕ) → List ℕ × ℕ → Bool
knows_factor names f = is_among names f.0

abbrev pub knows_term : List (List ℕ) → RawTerm → Bool
knows_term names t = list_all (knows_factor names) t.factors

abbrev pub knows_entry : List (List ℕ) → List RawTerm → Bool
knows_entry names = list_all (knows_term names)

abbrev pub knows_row : List (List ℕ) → List (List RawTerm) → Bool
knows_row names = list_all (knows_entry names)

-- the first element that fails the test
abbrev pub first_failing : {X : Type 0} → (X → Bool) → List X → Option X
first_failing test = find (λ x. not (test x))

-- the leftmost variable of a matrix that isn't one of the ring's: it stands in the first row that has one, in the first
-- such entry of this row, and in the first such term of this entry
abbrev pub first_unknown : List (List ℕ) → List (List (List RawTerm)) → Option (List ℕ)
first_unknown names rows = do
  row ← first_failing (knows_row names) rows
  entry ← first_failing (knows_entry names) row
  t ← first_failing (knows_term names) entry
  factor ← first_failing (knows_factor names) t.factors
  Some factor.0
