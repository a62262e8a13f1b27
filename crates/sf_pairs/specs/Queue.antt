-- Queues of pairs, of which those of least degree come next: the normal strategy. (Cox, Little, O'Shea, "Ideals, Varieties,
-- and Algorithms", chapter 2, section 10.) A queue is the list of its pairs, in the order in which they came.
use Rattle.std.specs.Prelude.{◌≡◌, ℕ, ℤ, ◌≤ℤ◌, int_le, Bool, IsTrue, List, ◌∷◌, ◌++◌, All, Any, count_by}
use Rattle.std.specs.List.{list_all}
use Rattle.std.specs.Ordering.{int_eq}

-- a pair of polynomials, by their numbers, with its degree
pub record QueuedPair : Type 0 where
  pub degree : ℤ
  pub first : ℕ
  pub second : ℕ

abbrev pub pair_of : ℤ → ℕ → ℕ → QueuedPair
pair_of degree first second = record { degree = degree; first = first; second = second }

-- whether a pair has degree d
abbrev pub is_of_degree : ℤ → QueuedPair → Bool
is_of_degree d e = int_eq e.degree d

-- d is the least degree of a queue: the degree of one of its pairs, and above that of none
abbrev pub HasLeast : ℤ → List QueuedPair → Type 0
HasLeast d queue = Any (λ (e : QueuedPair). e.degree ≡ d) queue × All (λ (e : QueuedPair). d ≤ℤ e.degree) queue

-- whether the degree of a pair is above that of none in a queue
abbrev pub is_least : List QueuedPair → QueuedPair → Bool
is_least queue e = list_all (λ (f : QueuedPair). int_le e.degree f.degree) queue

-- how many pairs of a part of a queue have the least degree of the queue
abbrev pub count_least_in : List QueuedPair → List QueuedPair → ℕ
count_least_in queue part = count_by (is_least queue) part

-- how many pairs of a queue have its least degree
abbrev pub count_least : List QueuedPair → ℕ
count_least queue = count_least_in queue queue

-- of a queue, the pair with these numbers is taken, and this is left: the pair has the least degree, and `at` others of the
-- least degree before it
pub record IsTaken (at : ℕ) (queue : List QueuedPair) (first second : ℕ) (left : List QueuedPair) : Type 0 where
  pub degree : ℤ
  pub before : List QueuedPair
  pub after : List QueuedPair
  pub whole : queue ≡ before ++ pair_of degree first second ∷ after
  pub rest : left ≡ before ++ after
  pub least : IsTrue (is_least queue (pair_of degree first second))
  pub place : count_least_in queue before ≡ at

-- a queue has at most one least degree
abbrev pub HasOneLeastDegree : Type 0
HasOneLeastDegree = (queue : List QueuedPair) (d e : ℤ) → HasLeast d queue → HasLeast e queue → d ≡ e

-- one pair can be taken, and one list left
abbrev pub TakesOnePair : Type 0
TakesOnePair =
    (at : ℕ) (queue : List QueuedPair) (a b c d : ℕ) (left other : List QueuedPair)
    → IsTaken at queue a b left → IsTaken at queue c d other → (a ≡ c) × (b ≡ d) × (left ≡ other)
