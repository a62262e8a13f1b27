-- The pairs of rows, and the generators, that wait in queues by their degrees. (Cox, Little, O'Shea, "Ideals,
-- Varieties, and Algorithms", chapter 2, section 10.) A generator waits as the pair of its number with itself.
use Rattle.std.specs.Prelude.{◌≡◌, ◌==◌, if◌then◌else◌, ℕ, zero, suc, ◌<◌, List, [], ◌∷◌, ◌++◌, length, map, ℤ, ◌≤ℤ◌}
use Rattle.std.specs.List.{AllByRecursion}
use Rattle.sf_algebra.specs.Divisibility.{lcm}
use Rattle.sf_algebra.specs.Matrices.{degrees_of}
use Rattle.sf_algebra.specs.Rings.{Weights}
use Rattle.sf_algebra.specs.Vectors.{Place, Vector, generator_degree, place_degree}
use Rattle.sf_groebner.specs.Criterion.{IsPair, lcm_place, lead_at}
use Rattle.sf_pairs.specs.Queue.{QueuedPair, pair_of, HasLeast}

-- the numbers of the pairs of a queue
abbrev pub pair_numbers : List QueuedPair → List (ℕ × ℕ)
pair_numbers queue = map (λ (e : QueuedPair). (e.first, e.second)) queue

-- the numbers of the generators of a queue
abbrev pub input_numbers : List QueuedPair → List ℕ
input_numbers queue = map (λ (e : QueuedPair). e.first) queue

-- a pair of rows waits by the degree of the least common multiple of their leads
pub record IsQueuedPair (weights : Weights) (target : List ℤ) (rows : List Vector) (e : QueuedPair) : Type 0 where
  pub pair : IsPair rows e.first e.second
  pub degree : e.degree ≡ place_degree weights target (lcm_place (lead_at rows) e.first e.second)

-- a generator waits by its degree
pub record IsQueuedInput (generators : List Vector) (e : QueuedPair) : Type 0 where
  pub within : e.first < length generators
  pub degree : e.degree ≡ generator_degree (degrees_of generators) e.first

-- generators as they wait at first, from number k on
abbrev pub queued_inputs : ℕ → List Vector → List QueuedPair
queued_inputs k [] = []
queued_inputs k (v ∷ vs) = pair_of v.degree k k ∷ queued_inputs (suc k) vs

-- the least common multiple of the lead of row i and a place
abbrev pub lcm_with : List Vector → Place → ℕ → Place
lcm_with rows lead i = record { position = lead.position; monomial = lcm (lead_at rows i).monomial lead.monomial }

-- the pair of row i and a row n whose lead stands at a place, where the leads stand at one position
abbrev pub pair_with : Weights → List ℤ → List Vector → Place → ℕ → ℕ → List QueuedPair
pair_with weights target rows lead n i =
    if (lead_at rows i).position == lead.position
    then pair_of (place_degree weights target (lcm_with rows lead i)) i n ∷ []
    else []

-- the pairs of the rows before k with row n
abbrev pub pairs_with : Weights → List ℤ → List Vector → Place → ℕ → ℕ → List QueuedPair
pairs_with weights target rows lead n zero = []
pairs_with weights target rows lead n (suc k) =
    pairs_with weights target rows lead n k ++ pair_with weights target rows lead n k

-- no degree of either queue is below the least of the first, which is not empty
abbrev pub IsFirst : List QueuedPair → List QueuedPair → Type 0
IsFirst queue other = (d : ℤ) × HasLeast d queue × AllByRecursion (λ (e : QueuedPair). d ≤ℤ e.degree) other
