-- Sums that stand as several canonical lists of terms, of which the greatest term is taken first. (This project's own.)
use Rattle.std.specs.Prelude.{◌≡◌, ◌≢◌, ℕ, ◌+◌, List, [], ◌∷◌, ◌++◌, length, Option, MatchOption}
use Rattle.std.specs.declared.cmp.Ordering.TheVariants.{Greater}
use Rattle.std.specs.List.{AllByRecursion}
use Rattle.sf_algebra.specs.Rings.{ones, plain}
use Rattle.sf_algebra.specs.Terms.{Term, IsCanonical}
use Rattle.sf_algebra.specs.VectorOperations.{row_sum}
use Rattle.sf_algebra.specs.Vectors.{Place, place_cmp}
use Rattle.sf_groebner.specs.Divisions.{AreBelow}

-- the sum of lists of terms
abbrev pub sum_of_lists : ℕ → List (List (Term Place)) → List (Term Place)
sum_of_lists p [] = []
sum_of_lists p (b ∷ bs) = row_sum (plain p) b (sum_of_lists p bs)

-- each of the lists is canonical
abbrev pub AreCanonical : ℕ → List (List (Term Place)) → Type 0
AreCanonical p bs = AllByRecursion (IsCanonical (place_cmp ones) p) bs

-- no term of a list stands above k
abbrev pub IsUpTo : Place → List (Term Place) → Type 0
IsUpTo k ts = AllByRecursion (λ (t : Term Place). place_cmp ones t.at k ≢ Greater) ts

-- k is the greatest place at which a term of the lists stands
pub record IsGreatest (k : Place) (bs : List (List (Term Place))) : Type 0 where
  pub above : AllByRecursion (IsUpTo k) bs
  pub reached : AllByRecursion (AreBelow ones k) bs → ⊥

-- the answer stands at the greatest place; there is none where there are no terms
abbrev pub GreatestOf : Option (Term Place) → List (List (Term Place)) → Type 0
GreatestOf answer bs = MatchOption answer (AllByRecursion (λ b. b ≡ []) bs) (λ t. IsGreatest t.at bs)

-- the second answer stands at the greatest place of one list more
abbrev pub IsGreatestWith : Option (Term Place) → List (Term Place) → Option (Term Place) → Type 0
IsGreatestWith answer b next = (bs : List (List (Term Place))) → GreatestOf answer bs → GreatestOf next (bs ++ b ∷ [])

-- the number of terms of the lists
abbrev pub count_of_terms : List (List (Term Place)) → ℕ
count_of_terms [] = 0
count_of_terms (b ∷ bs) = length b + count_of_terms bs
