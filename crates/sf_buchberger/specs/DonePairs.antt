-- Which pairs of rows are done, and the chain criterion over them. (Cox, Little, O'Shea, "Ideals, Varieties, and
-- Algorithms", chapter 2, section 10.) For each row there is a flag for each earlier one.
use Rattle.std.specs.Prelude.{◌≡◌, ℕ, ◌<◌, Bool, true, false, List, [], ◌∷◌, ◌++◌, length, max, min, replicate, slice_index_or, slice_set, IsTrue}
use Rattle.sf_algebra.specs.Rings.{Ring}
use Rattle.sf_algebra.specs.Vectors.{Vector}
use Rattle.sf_groebner.specs.Criterion.{IsPair, ReducesToZero, lcm_place, lead_at}
use Rattle.sf_groebner.specs.Leads.{PlaceDivides}

-- whether the pair of rows i and j, in either order, is done; past the table none is
abbrev pub is_done : List (List Bool) → ℕ → ℕ → Bool
is_done flags i j = slice_index_or (slice_index_or flags (max i j) []) (min i j) false

-- the table with the flag of an earlier row i and a later row j raised
abbrev pub with_done : List (List Bool) → ℕ → ℕ → List (List Bool)
with_done flags i j = slice_set flags j (slice_set (slice_index_or flags j []) i true)

-- the table with a further row, no pair of which is done
abbrev pub with_new_row : List (List Bool) → List (List Bool)
with_new_row flags = flags ++ replicate (length flags) false ∷ []

-- a table with a row for each row of a basis tells only pairs that reduce to zero
pub record AreDone (ring : Ring) (rows : List Vector) (flags : List (List Bool)) : Type 0 where
  pub size : length flags ≡ length rows
  pub reduce : (i j : ℕ) → IsPair rows i j → IsTrue (is_done flags i j) → ReducesToZero ring rows i j

-- the lead of row k divides the least common multiple of the leads of rows i and j, and its pairs with both are done
abbrev pub IsLink : List Vector → List (List Bool) → ℕ → ℕ → ℕ → Type 0
IsLink rows flags i j k =
    PlaceDivides (lead_at rows k) (lcm_place (lead_at rows) i j) × IsTrue (is_done flags i k)
    × IsTrue (is_done flags k j)

-- there is such a row
abbrev pub IsChained : List Vector → List (List Bool) → ℕ → ℕ → Type 0
IsChained rows flags i j = (k : ℕ) × (k < length rows) × IsLink rows flags i j k
