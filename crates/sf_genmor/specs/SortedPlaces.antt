-- The generators of a free module by ascending degree, and in one degree by position. (The order is this project's own.)
use Rattle.std.specs.Prelude.{ℕ, suc, List, [], ◌∷◌, ℤ}
use Rattle.std.specs.Ordering.{int_cmp, match_ordering}

-- a generator, as its degree and position, put in front of the first whose degree isn't smaller
abbrev pub insert_place : ℤ × ℕ → List (ℤ × ℕ) → List (ℤ × ℕ)
insert_place p [] = p ∷ []
insert_place p (q ∷ qs) = match_ordering (int_cmp p.0 q.0) (p ∷ q ∷ qs) (p ∷ q ∷ qs) (q ∷ insert_place p qs)

-- those of generators of these degrees, the first of which stands at position i
abbrev pub sorted_places : ℕ → List ℤ → List (ℤ × ℕ)
sorted_places i [] = []
sorted_places i (d ∷ ds) = insert_place (d, i) (sorted_places (suc i) ds)
