-- A row that is read from its greatest term on, one column after another.
use Rattle.std.specs.Prelude.{◌≡◌, ℕ, ◌<◌, ◌≤◌, List, drop}
use Rattle.std.specs.List.{AllByRecursion}
use Rattle.sf_algebra.specs.Terms.{Term}
use Rattle.sf_algebra.specs.Vectors.{Place, entry}

-- each term from number k on stands at this column or a later one
abbrev pub IsFromColumn : ℕ → ℕ → List (Term Place) → Type 0
IsFromColumn column k ts = AllByRecursion (λ t. column ≤ t.at.position) (drop k ts)

-- the terms from number k on and those from number n on have the same entries past this column
abbrev pub SameEntriesPast : ℕ → ℕ → ℕ → List (Term Place) → Type 0
SameEntriesPast column k n ts = (i : ℕ) → column < i → entry i (drop n ts) ≡ entry i (drop k ts)
