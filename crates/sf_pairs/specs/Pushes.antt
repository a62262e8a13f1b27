-- Queues of pairs that are kept by their degrees, with the numbers of their pushes. (This project's own.)
use Rattle.std.specs.Prelude.{◌≡◌, ◌==◌, if◌then◌else◌, ℕ, zero, suc, ◌<◌, ◌≤ℤ◌, List, [], ◌∷◌, ◌++◌}
use Rattle.std.specs.List.{AllByRecursion}
use Rattle.sf_pairs.specs.Queue.{QueuedPair}

-- a pair with the number of its push
pub record NumberedPair : Type 0 where
  pub number : ℕ
  pub pair : QueuedPair

-- the pair of push n, where it waits
abbrev pub pushed_at : ℕ → List NumberedPair → List QueuedPair
pushed_at n [] = []
pushed_at n (e ∷ es) = if e.number == n then e.pair ∷ pushed_at n es else pushed_at n es

-- the pairs of the first n pushes that wait, in the order of their pushes
abbrev pub in_order : ℕ → List NumberedPair → List QueuedPair
in_order zero es = []
in_order (suc n) es = in_order n es ++ pushed_at n es

-- e has a lower degree than f, or the same and an earlier push
pub record ComesBefore (e f : NumberedPair) : Type 0 where
  pub degrees : e.pair.degree ≤ℤ f.pair.degree
  pub pushes : e.pair.degree ≡ f.pair.degree → e.number < f.number
  pub apart : e.number ≡ f.number → ⊥

-- each comes before those after it
abbrev pub AreByDegree : List NumberedPair → Type 0
AreByDegree [] = Unit {0}
AreByDegree (e ∷ es) = AllByRecursion (ComesBefore e) es × AreByDegree es

-- pairs by their degrees, of so many pushes
pub record IsKept (pushes : ℕ) (es : List NumberedPair) : Type 0 where
  pub sorted : AreByDegree es
  pub numbers : AllByRecursion (λ (e : NumberedPair). e.number < pushes) es
