-- Items joined by a separator, as they are written one after another.
use Rattle.std.specs.Prelude.{ℕ, Bool, true, if◌then◌else◌, List, [], ◌∷◌, ◌++◌}

-- the separator, where an item stands before
abbrev pub separator_after : Bool → ℕ → List ℕ
separator_after follows c = if follows then c ∷ [] else []

-- items with a separator before each, before the first only where an item stands before
abbrev pub joined_after : Bool → ℕ → List (List ℕ) → List ℕ
joined_after follows c [] = []
joined_after follows c (x ∷ xs) = separator_after follows c ++ x ++ joined_after true c xs
